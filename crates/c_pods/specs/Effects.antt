-- Effects as records, and their texts and lists.
use Rattle.c_pods.specs.Records.{call_record, call_text, exit_record, exit_text, func_number, no_call}
use Rattle.c_pods.specs.declared.effects.EffectRecord.{EffectRecord}
use Rattle.lwp_types.specs.declared.call.Answer.{Answer}
use Rattle.lwp_types.specs.declared.call.Answer.TheVariants as answer
use Rattle.lwp_types.specs.declared.call.Effect.{Effect}
use Rattle.lwp_types.specs.declared.call.Effect.TheVariants as effect
use Rattle.lwp_types.specs.declared.call.IdKind.{IdKind}
use Rattle.lwp_types.specs.declared.call.IdKind.TheVariants as kind
use Rattle.lwp_types.specs.declared.call.LwpErr.{LwpErr}
use Rattle.lwp_types.specs.declared.call.LwpErr.TheVariants as error
use Rattle.std.specs.Prelude.{List, [], length, pos, ℕ, ◌∷◌}

-- the first of these take the places at the front of a buffer, as many as it has
abbrev pub put_front : {A : Type 0} → List A → List A → List A
put_front [] buffer = buffer
put_front (x ∷ xs) [] = []
put_front (x ∷ xs) (b ∷ buffer) = x ∷ put_front xs buffer

-- no effect, with nothing in it
abbrev pub no_effect : EffectRecord
no_effect = record {
  kind = 4294967295;
  answer = 4294967295;
  tid = 0;
  value = pos 0;
  id = 0;
  reg = 0;
  small = 0;
  arg = 0;
  depth = 0;
  mark = 0;
  pattern = 0;
  text_len = 0;
  ids_len = 0;
  call = no_call;
}

-- an error
abbrev pub error_number : LwpErr → ℕ
error_number error.NoError = 0
error_number error.NonExist = 1
error_number error.Timeout = 2
error_number error.InUse = 3
error_number error.InvalidArg = 4
error_number error.NoRoom = 5
error_number error.NotOwned = 6
error_number error.IllPrio = 7
error_number error.NoWait = 8

-- what the numbers of a list are
abbrev pub kind_number : IdKind → ℕ
kind_number kind.Thread = 0
kind_number kind.Monitor = 1
kind_number kind.Cond = 2

-- the record of an effect, with an answer
abbrev pub with_answer : Answer → EffectRecord → EffectRecord
with_answer (answer.Value v) e = record e { answer = 0; value = v }
with_answer (answer.Thread t) e = record e { answer = 1; id = t }
with_answer (answer.Monitor m) e = record e { answer = 2; id = m }
with_answer (answer.Cond c) e = record e { answer = 3; id = c }
with_answer (answer.Letter from text room) e = record e { answer = 4; id = from; small = room; text_len = length text }
with_answer (answer.Reply text) e = record e { answer = 5; text_len = length text }
with_answer (answer.Bound f arg) e = record e { answer = 6; small = func_number f; arg = arg }
with_answer (answer.Caught depth mark p) e = record e { answer = 7; depth = depth; mark = mark; pattern = p }
with_answer (answer.Ids k ids) e = record e { answer = 8; small = kind_number k; ids_len = length ids }
with_answer (answer.Refused r) e = record e { answer = 9; small = error_number r }

-- an effect of this kind on a thread, with nothing else in it yet
abbrev pub on_thread : ℕ → ℕ → EffectRecord
on_thread kind t = record no_effect { kind = kind; tid = t }

-- an effect
abbrev pub effect_record : Effect → EffectRecord
effect_record (effect.Called t c) = record (on_thread 0 t) { text_len = length (call_text c); call = call_record c }
effect_record (effect.Answered t a) = with_answer a (on_thread 1 t)
effect_record (effect.Exited t reg x a) = record (with_answer a (on_thread 2 t)) {
  reg = reg;
  text_len = length (exit_text x);
  call = exit_record x;
}
effect_record (effect.Died t) = on_thread 3 t
effect_record (effect.Delivered agent e) = record (on_thread 4 agent) { small = e }
effect_record (effect.Ticked now) = record (on_thread 5 0) { id = now }
effect_record (effect.Ended status) = record (on_thread 6 0) { small = status }
effect_record (effect.Trapped t e) = record (on_thread 7 t) { small = e }
effect_record (effect.Rites agent dead) = record (on_thread 8 agent) { id = dead }

-- the text of an answer; the empty one, where it has none
abbrev pub answer_text : Answer → List ℕ
answer_text (answer.Letter from text room) = text
answer_text (answer.Reply text) = text
answer_text _ = []

-- the numbers that an answer lists, if it lists any
abbrev pub answer_ids : Answer → List ℕ
answer_ids (answer.Ids k ids) = ids
answer_ids _ = []

-- the text of an effect: of its call, its answer, or its exit procedure's call; the empty one, where it has none
abbrev pub effect_text : Effect → List ℕ
effect_text (effect.Called t c) = call_text c
effect_text (effect.Answered t a) = answer_text a
effect_text (effect.Exited t reg x a) = exit_text x
effect_text _ = []

-- the numbers that an effect lists, if it lists any
abbrev pub effect_ids : Effect → List ℕ
effect_ids (effect.Answered t a) = answer_ids a
effect_ids (effect.Exited t reg x a) = answer_ids a
effect_ids _ = []
