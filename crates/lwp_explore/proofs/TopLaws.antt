-- What the program says, from what was read, found and written.
use Rattle.lwp_explore.specs.Top.{EndSays, IsCut, IsWritten, Says, ToldAll, TopSays, second_word}
use Rattle.lwp_explore.specs.Words.{command_of}
use Rattle.lwp_explore.specs.Written.{ScriptSays, WriteSays}
use Rattle.lwp_explore.specs.declared.ending.Ending.{Ending}
use Rattle.lwp_explore.specs.declared.ending.Ending.TheVariants as ending
use Rattle.lwp_explore.specs.declared.words.Command.{Command}
use Rattle.lwp_explore.specs.declared.words.Command.TheVariants as command
use Rattle.lwp_explore.specs.Ends.{kinds_in}
use Rattle.lwp_explore.specs.KindText.{is_bad}
use Rattle.lwp_types.specs.Streams.{after_append}
use Rattle.script_session.proofs.SaidLaws.{read-of, says-all}
use Rattle.script_session.specs.Said.{IsRead}
use Rattle.script_session.specs.declared.session.SessionEnd.{SessionEnd}
use Rattle.script_session.specs.declared.session.SessionEnd.TheVariants as end
use Rattle.script_text.specs.declared.script.Script.{Script}
use Rattle.std.proofs.Common.{Bool, List, Option, Some, false, inl, inr, subst, sym, true, ℕ, ◌∙◌, ◌≡◌}
use Rattle.std.specs.List.{list_any}
use Rattle.std.specs.Prelude.{if◌then◌else◌}
use Rattle.streams.specs.Streams.{IsFaultless, IsFaulty, Stream}
use Rattle.streams.specs.Writing.{AppendsPart}

-- a text comes to no fault
module _ (asked : Command) (line : List ℕ) (script : Script) (text : List ℕ) where
  ends_no_fault : (kinds : Bool) (whole : Bool) (e : SessionEnd)
      → ending.Other e ≡ (if kinds then ending.Told else if whole then ending.Well else ending.Cut) → ⊥
  ends_no_fault true whole e h = absurd cc
  ends_no_fault false true e h = absurd cc
  ends_no_fault false false e h = absurd cc

  says_no_fault : (e : SessionEnd) → Says asked line script text (ending.Other e) → ⊥
  says_no_fault e says = by asked says
    where
      by : (c : Command) → Says c line script text (ending.Other e) → ⊥
      by (command.Ends cores) h = ends_no_fault (list_any is_bad (kinds_in h.found.kinds)) h.found.whole e h.ends
      by (command.Trace kind cores) h = h.trace
      by (command.Line cores) h = h

module _ (asked : Command) (line : List ℕ) (source sink : Stream) (script : Script) (read : IsRead source script) where
  told : (e : Ending) (text : List ℕ) → Says asked line script text e → IsFaultless sink → sink.new ≡ after_append sink.old text
      → ToldAll asked line source sink e
  told e text says faultless wrote = (
    read-of source script end.Stuck read tt,
    (
      read.faultless,
      says-all source.old script (λ (x : Script). IsWritten (λ text. Says asked line x text e) sink) read.holds (faultless, (text, says, wrote)),
    ),
  )

  told_end : (e : Ending) (text : List ℕ) → Says asked line script text e → ToldAll asked line source sink e → EndSays asked line source sink e
  told_end ending.Well text says all = all
  told_end ending.Told text says all = all
  told_end ending.Cut text says all = all
  told_end ending.Missing text says all = all
  told_end (ending.Other e) text says all = absurd (says_no_fault asked line script text e says)

  cut_end : (e : Ending) (text : List ℕ) → Says asked line script text e → IsFaulty sink → AppendsPart sink.old sink.new text
      → EndSays asked line source sink (ending.Other end.WriteFault)
  cut_end e text says faulty part = (
    read-of source script end.Stuck read tt,
    (
      read.faultless,
      says-all source.old script (λ (x : Script). IsCut (λ text. (e : Ending) × Says asked line x text e) sink) read.holds (faulty, (text, (e, says), part)),
    ),
  )

  -- a script was read, and what is asked for was done with it
  pub script_end : (result : Ending) → ScriptSays asked line script sink result → EndSays asked line source sink result
  script_end result (inl none) = subst (λ r. EndSays asked line source sink r) (sym none.0) (
    read.faultless,
    read-of source script end.NoMemory read tt,
    none.1,
  )
  script_end result (inr said) = by said.3
    where
      by : WriteSays said.0 said.1 sink result → EndSays asked line source sink result
      by (inl all) = subst (λ r. EndSays asked line source sink r) (sym all.0)
          (told_end said.1 said.0 said.2 (told said.1 said.0 said.2 all.1 all.2))
      by (inr part) = subst (λ r. EndSays asked line source sink r) (sym part.0) (cut_end said.1 said.0 said.2 part.1 part.2)

-- so the words come to what they ask for
pub top_says : (words : List (List ℕ)) (found : Option Command) (asked : Command) (line : List ℕ) (source sink : Stream) (script : Script) (e : Ending)
    → found ≡ command_of words → found ≡ Some asked → line ≡ second_word words → IsRead source script → ScriptSays asked line script sink e
    → TopSays (command_of words) words source sink e
top_says words found asked line source sink script e same is line_is read said =
    subst (λ o. TopSays o words source sink e) (sym is ∙ same)
    (script_end asked (second_word words) source sink script read e (subst (λ l. ScriptSays asked l script sink e) line_is said))
