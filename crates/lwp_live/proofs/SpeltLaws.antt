-- A script with the posts of an input after it is spelt.
use Rattle.event_gate.proofs.Lines.{cond_other, cond_same, same_or}
use Rattle.lwp_live.proofs.ClientCounts.{counted_at, counted_size, counts_are, counts_at, counts_size}
use Rattle.lwp_live.proofs.DeskLaws.{inside, room_parts}
use Rattle.lwp_live.specs.Ends.{arrival_of}
use Rattle.lwp_live.specs.Input.{Heard, Standing, client_by, heard_as, heard_line, heard_lines, has_room, input_lines, judge, judge_by, nothing_heard, post_line, rest_of, word_of}
use Rattle.lwp_live.specs.Laws.{RecordedSpelt}
use Rattle.lwp_live.specs.Reading.{texts_by}
use Rattle.lwp_live.specs.Recorded.{lines_of_client, recorded, standing_of, with_arrival}
use Rattle.lwp_live.specs.declared.arrival.Arrival.{Arrival}
use Rattle.lwp_live.specs.declared.arrival.Fault.{Fault}
use Rattle.lwp_live.specs.declared.arrival.Fault.TheVariants as fault
use Rattle.lwp_types.specs.TextFields.{is_printable, is_text}
use Rattle.script_body.proofs.PostLaws.{is_posted}
use Rattle.script_lines.proofs.WordLemmas.{both}
use Rattle.script_lines.specs.Line.{IsLine, phrase_text, posting, with_newline}
use Rattle.script_lines.specs.Phrase.{Phrase}
use Rattle.script_lines.specs.Table.{role_of, row_of}
use Rattle.script_lines.specs.declared.table.Op.TheVariants as op
use Rattle.script_lines.specs.declared.table.Role.{Role}
use Rattle.script_lines.specs.declared.table.Role.TheVariants as role
use Rattle.script_text.proofs.TrackLaws.{declared_push, fold_push, stage_push}
use Rattle.script_text.specs.Grammar.{AllStand, SpelledBy, Spells, declared_of, follows, is_declared, keeps_rule, may_stand, posted_of, spelling, stage_after, stage_behind_first, stage_of}
use Rattle.script_text.specs.Meaning.{after_add, after_add_at, after_enter, after_name, after_raise, draft_of, empty_draft, places_of, script_of, with_last_procedure}
use Rattle.script_text.specs.declared.draft.Draft.{Draft}
use Rattle.script_text.specs.declared.draft.Places.{Places}
use Rattle.script_text.specs.declared.reader.Declared.{Declared}
use Rattle.script_text.specs.declared.script.Post.{Post}
use Rattle.script_text.specs.declared.script.Proc.{Proc}
use Rattle.script_text.specs.declared.script.Script.{Script}
use Rattle.script_text.specs.declared.stage.Stage.{Stage}
use Rattle.script_text.specs.declared.stage.Stage.TheVariants as stage
use Rattle.trace_text.specs.Lines.{with_space}
use Rattle.std.proofs.Common.{Bool, List, None, Option, Some, [], ap, append-nil, append_assoc, arith, cond, eqb, false, filter, flat_map, fold, if◌then◌else◌, inl, inr, length, length-append, map, nat_lt, not}
use Rattle.std.proofs.Common.{refl, slice_index_or, subst, suc, sym, take, true, true≢false, zero, ℕ, ⊎_elim, ◌&&◌, ◌+◌, ◌++◌, ◌<◌, ◌∙◌, ◌∷◌, ◌≡◌, ◌≢◌, ◌≤◌}
use Rattle.std.proofs.lemmas.Bool.{le-leb, lt-ltb, ltb-false, ltb-true}
use Rattle.std.proofs.lemmas.List.Concat.{flat_map-append}
use Rattle.std.proofs.lemmas.List.Elements.{filter-append}
use Rattle.std.proofs.lemmas.List.Sums.{fold-append}
use Rattle.std.specs.List.{AllByRecursion}
use Rattle.std.specs.Prelude.{Err, IsTrue, Ok, Result, codes, decimal, option_to_list, ◌⊎◌}

-- ---- where a post may stand

-- no procedure has begun yet
abbrev early : Stage → Bool
early stage.Start = true
early stage.Header = true
early stage.Pod = true
early stage.Clients = true
early stage.Natives = true
early stage.Proc = false
early stage.Calling = false
early stage.Skipping = false
early stage.Ended = false
early stage.Posts = false

follows_post : (s : Stage) → early s ≡ false → follows s role.Post ≡ true
follows_post stage.Start h = absurd (true≢false h)
follows_post stage.Header h = absurd (true≢false h)
follows_post stage.Pod h = absurd (true≢false h)
follows_post stage.Clients h = absurd (true≢false h)
follows_post stage.Natives h = absurd (true≢false h)
follows_post stage.Proc h = refl
follows_post stage.Calling h = refl
follows_post stage.Skipping h = refl
follows_post stage.Ended h = refl
follows_post stage.Posts h = refl

header_early : (s : Stage) → follows s role.Header ≡ true → early s ≡ true
header_early stage.Start h = refl
header_early stage.Header h = refl
header_early stage.Pod h = refl
header_early stage.Clients h = refl
header_early stage.Natives h = refl
header_early stage.Proc h = absurd (true≢false (sym h))
header_early stage.Calling h = absurd (true≢false (sym h))
header_early stage.Skipping h = absurd (true≢false (sym h))
header_early stage.Ended h = absurd (true≢false (sym h))
header_early stage.Posts h = absurd (true≢false (sym h))

pod_early : (s : Stage) → follows s role.Pod ≡ true → early s ≡ true
pod_early stage.Start h = refl
pod_early stage.Header h = refl
pod_early stage.Pod h = refl
pod_early stage.Clients h = refl
pod_early stage.Natives h = refl
pod_early stage.Proc h = absurd (true≢false (sym h))
pod_early stage.Calling h = absurd (true≢false (sym h))
pod_early stage.Skipping h = absurd (true≢false (sym h))
pod_early stage.Ended h = absurd (true≢false (sym h))
pod_early stage.Posts h = absurd (true≢false (sym h))

limit_early : (s : Stage) → follows s role.Limit ≡ true → early s ≡ true
limit_early stage.Start h = refl
limit_early stage.Header h = refl
limit_early stage.Pod h = refl
limit_early stage.Clients h = refl
limit_early stage.Natives h = refl
limit_early stage.Proc h = absurd (true≢false (sym h))
limit_early stage.Calling h = absurd (true≢false (sym h))
limit_early stage.Skipping h = absurd (true≢false (sym h))
limit_early stage.Ended h = absurd (true≢false (sym h))
limit_early stage.Posts h = absurd (true≢false (sym h))

client_early : (s : Stage) → follows s role.Client ≡ true → early s ≡ true
client_early stage.Start h = refl
client_early stage.Header h = refl
client_early stage.Pod h = refl
client_early stage.Clients h = refl
client_early stage.Natives h = refl
client_early stage.Proc h = absurd (true≢false (sym h))
client_early stage.Calling h = absurd (true≢false (sym h))
client_early stage.Skipping h = absurd (true≢false (sym h))
client_early stage.Ended h = absurd (true≢false (sym h))
client_early stage.Posts h = absurd (true≢false (sym h))

native_early : (s : Stage) → follows s role.Native ≡ true → early s ≡ true
native_early stage.Start h = refl
native_early stage.Header h = refl
native_early stage.Pod h = refl
native_early stage.Clients h = refl
native_early stage.Natives h = refl
native_early stage.Proc h = absurd (true≢false (sym h))
native_early stage.Calling h = absurd (true≢false (sym h))
native_early stage.Skipping h = absurd (true≢false (sym h))
native_early stage.Ended h = absurd (true≢false (sym h))
native_early stage.Posts h = absurd (true≢false (sym h))

statement_late : (s : Stage) → follows s role.Statement ≡ true → early (stage_behind_first stage.Calling s) ≡ false
statement_late stage.Start h = absurd (true≢false (sym h))
statement_late stage.Header h = absurd (true≢false (sym h))
statement_late stage.Pod h = absurd (true≢false (sym h))
statement_late stage.Clients h = absurd (true≢false (sym h))
statement_late stage.Natives h = absurd (true≢false (sym h))
statement_late stage.Proc h = refl
statement_late stage.Calling h = refl
statement_late stage.Skipping h = refl
statement_late stage.Ended h = refl
statement_late stage.Posts h = refl

skip_late : (s : Stage) → follows s role.Skip ≡ true → early (stage_behind_first stage.Skipping s) ≡ false
skip_late stage.Start h = absurd (true≢false (sym h))
skip_late stage.Header h = absurd (true≢false (sym h))
skip_late stage.Pod h = absurd (true≢false (sym h))
skip_late stage.Clients h = absurd (true≢false (sym h))
skip_late stage.Natives h = absurd (true≢false (sym h))
skip_late stage.Proc h = refl
skip_late stage.Calling h = refl
skip_late stage.Skipping h = refl
skip_late stage.Ended h = refl
skip_late stage.Posts h = refl

-- as long as none has begun there is none
abbrev Bare : Stage → Draft → Type 0
Bare s d = early s ≡ true → (d.script.procs ≡ []) × (d.current ≡ None)

bare_step : (r : Role) (s : Stage) (at : Places) (d : Draft) (p : Phrase) → follows s r ≡ true → Bare s d
    → Bare (stage_after s r) (after_add_at r at (after_enter d p) p)
bare_step role.Header s at d p f h = λ e. h (header_early s f)
bare_step role.Pod s at d p f h = λ e. h (pod_early s f)
bare_step role.Limit s at d p f h = λ e. h (limit_early s f)
bare_step role.Client s at d p f h = λ e. h (client_early s f)
bare_step role.Native s at d p f h = λ e. h (native_early s f)
bare_step role.Proc s at d p f h = λ e. absurd (true≢false (sym e))
bare_step role.Post s at d p f h = λ e. absurd (true≢false (sym e))
bare_step role.Statement s at d p f h = λ e. absurd (true≢false (sym e ∙ statement_late s f))
bare_step role.Skip s at d p f h = λ e. absurd (true≢false (sym e ∙ skip_late s f))
bare_step role.Again s at d p f h = λ e. absurd (true≢false (sym e))

-- ---- how many lines each client has

raised : (c : ℕ) (ns : List ℕ) → c < length ns → slice_index_or (after_raise c ns) c 0 ≡ slice_index_or ns c 0 + 1
raised c [] h = absurd (omega (arith, h))
raised zero (n ∷ ns) h = omega arith
raised (suc c) (n ∷ ns) h = raised c ns (omega (arith, h))

raised_other : (c d : ℕ) (ns : List ℕ) → c ≢ d → slice_index_or (after_raise c ns) d 0 ≡ slice_index_or ns d 0
raised_other c d [] h = refl
raised_other zero zero (n ∷ ns) h = absurd (h refl)
raised_other zero (suc d) (n ∷ ns) h = refl
raised_other (suc c) zero (n ∷ ns) h = refl
raised_other (suc c) (suc d) (n ∷ ns) h = raised_other c d ns (λ e. h (ap suc e))

raised_size : (c : ℕ) (ns : List ℕ) → length (after_raise c ns) ≡ length ns
raised_size c [] = refl
raised_size zero (n ∷ ns) = refl
raised_size (suc c) (n ∷ ns) = let h = raised_size c ns in omega (arith, h)

one_none : (c : ℕ) (ns : List ℕ) → slice_index_or (ns ++ 0 ∷ []) c 0 ≡ slice_index_or ns c 0
one_none zero [] = refl
one_none (suc c) [] = refl
one_none zero (n ∷ ns) = refl
one_none (suc c) (n ∷ ns) = one_none c ns

posts_more : (c : ℕ) (posts : List Post) (p : Post) → lines_of_client c (posts ++ p ∷ []) ≡ lines_of_client c posts + cond (eqb p.client c) 1 0
posts_more c posts p =
    let mine : Post → Bool = λ (q : Post). eqb q.client c in
    let two = ap length (filter-append mine posts (p ∷ [])) in
    let size = length-append (filter mine posts) (filter mine (p ∷ [])) in
    let one = by (eqb p.client c) in
    omega (arith, two, size, one)
  where
    by : (b : Bool) → length (cond b (p ∷ []) []) ≡ cond b 1 0
    by true = refl
    by false = refl

may_post : (ns : List ℕ) (c : ℕ) → nat_lt (slice_index_or ns c 20000) 20000 ≡ true → c < length ns
may_post ns c h = inside ns c (ltb-true (slice_index_or ns c 20000) 20000 h)

-- the counts are those of the posts
record Tallied (d : Draft) : Type 0 where
  size : length d.posted ≡ length d.script.clients
  each : (c : ℕ) → slice_index_or d.posted c 0 ≡ lines_of_client c d.script.posts

tally_same : (d e : Draft) → Tallied d → e.posted ≡ d.posted → e.script.clients ≡ d.script.clients → e.script.posts ≡ d.script.posts → Tallied e
tally_same d e h posted clients posts = record {
  size = ap length posted ∙ h.size ∙ ap length (sym clients);
  each = λ c. ap (λ ns. slice_index_or ns c 0) posted ∙ h.each c ∙ ap (lines_of_client c) (sym posts);
}

tally_step : (r : Role) (known : Declared) (at : Places) (d : Draft) (p : Phrase) → keeps_rule known d.posted r p ≡ true → Tallied d
    → Tallied (after_add_at r at (after_enter d p) p)
tally_step role.Header known at d p k h = tally_same d (after_add_at role.Header at (after_enter d p) p) h refl refl refl
tally_step role.Pod known at d p k h = tally_same d (after_add_at role.Pod at (after_enter d p) p) h refl refl refl
tally_step role.Limit known at d p k h = tally_same d (after_add_at role.Limit at (after_enter d p) p) h refl refl refl
tally_step role.Client known at d p k h = record {
  size = (let size = h.size in let a = length-append d.posted (0 ∷ []) in let b = length-append d.script.clients (p.event ∷ []) in omega (arith, size, a, b));
  each = λ c. one_none c d.posted ∙ h.each c;
}
tally_step role.Native known at d p k h = tally_same d (after_add_at role.Native at (after_enter d p) p) h refl refl refl
tally_step role.Proc known at d p k h = tally_same d (after_add_at role.Proc at (after_enter d p) p) h refl refl refl
tally_step role.Post known at d p k h = record {
  size = raised_size p.client d.posted ∙ h.size;
  each = λ c.
      let more = posts_more c d.script.posts (record { client = p.client; seq = slice_index_or d.posted p.client 0; text = at.text }) in
      let was = h.each c in
      ⊎_elim
      (λ (e : p.client ≡ c).
      let up = raised p.client d.posted (may_post d.posted p.client k) in
      let here = ap (λ x. slice_index_or (after_raise p.client d.posted) x 0) e in
      let there = ap (λ x. slice_index_or d.posted x 0) e in
      let one : ◌≡◌ {A = ℕ} (cond (eqb p.client c) 1 0) 1 = cond_same p.client c 1 0 e in
      omega (arith, up, here, there, one, more, was))
      (λ (apart : p.client ≢ c).
      let same = raised_other p.client c d.posted apart in
      let none : ◌≡◌ {A = ℕ} (cond (eqb p.client c) 1 0) 0 = cond_other p.client c 1 0 apart in
      omega (arith, same, none, more, was))
      (same_or p.client c);
}
tally_step role.Statement known at d p k h = tally_same d (after_add_at role.Statement at (after_enter d p) p) h refl refl refl
tally_step role.Skip known at d p k h = tally_same d (after_add_at role.Skip at (after_enter d p) p) h refl refl refl
tally_step role.Again known at d p k h = tally_same d (after_add_at role.Again at (after_enter d p) p) h refl refl refl

record Sound (before : List Phrase) : Type 0 where
  bare : Bare (stage_of before) (draft_of before)
  tally : Tallied (draft_of before)

sound_on : (before ps : List Phrase) → AllStand before ps → Sound before → Sound (before ++ ps)
sound_on before [] s h = subst Sound (sym (append-nil before)) h
sound_on before (p ∷ ps) s h =
    let r = role_of p.op in
    let d = draft_of before in
    let k = both (follows (stage_of before) r) (keeps_rule (declared_of before) (posted_of before) r p) s.0 in
    let at = places_of (after_name d.script.names p) d.script.texts p in
    let next : Sound (before ++ p ∷ []) = record {
      bare = subst (λ (x : Stage). Bare x (draft_of (before ++ p ∷ []))) (sym (stage_push before p))
          (subst (λ (e : Draft). Bare (stage_after (stage_of before) r) e) (sym (fold_push after_add empty_draft before p))
          (bare_step r (stage_of before) at d p k.0 h.bare));
      tally = subst Tallied (sym (fold_push after_add empty_draft before p)) (tally_step r (declared_of before) at d p k.1 h.tally);
    } in
    subst Sound (append_assoc before (p ∷ []) ps) (sound_on (before ++ p ∷ []) ps s.1 next)

sound_all : (lines : List Phrase) → AllStand [] lines → Sound lines
sound_all lines s = sound_on [] lines s (record { bare = λ e. (refl, refl); tally = record { size = refl; each = λ c. refl } })

-- once there is a procedure, a post may come
late_of : (lines : List Phrase) → Sound lines → 0 < length (script_of lines).procs → early (stage_of lines) ≡ false
late_of lines h some = by (early (stage_of lines)) refl
  where
    by : (b : Bool) → early (stage_of lines) ≡ b → early (stage_of lines) ≡ false
    by false is = is
    by true is =
        let none = h.bare is in
        let d = draft_of lines in
        let size : length (script_of lines).procs ≡ 0 = (λ i. length (none.0 i ++ option_to_list (none.1 i))) in
        absurd (omega (arith, some, size))

-- ---- one post more

stands_two : (before ps : List Phrase) (p : Phrase) → AllStand before ps → IsTrue (may_stand (before ++ ps) p) → AllStand before (ps ++ p ∷ [])
stands_two before [] p h k = (subst (λ xs. IsTrue (may_stand xs p)) (append-nil before) k, tt)
stands_two before (q ∷ ps) p h k =
    (h.0, stands_two (before ++ q ∷ []) ps p h.1 (subst (λ xs. IsTrue (may_stand xs p)) (sym (append_assoc before (q ∷ []) ps)) k))

all_two : {A : Type 0} (Q : A → Type 0) (xs ys : List A) → AllByRecursion Q xs → AllByRecursion Q ys → AllByRecursion Q (xs ++ ys)
all_two Q [] ys h k = k
all_two Q (x ∷ xs) ys h k = (h.0, all_two Q xs ys h.1 k)

post_text : (c : ℕ) (text : List ℕ) → with_newline (phrase_text (posting c text)) ≡ post_line (record { client = c; text = text })
unfolding row_of
post_text c text = ap (λ xs. codes "post " ++ xs)
    (append_assoc (decimal c) (with_space text ++ []) (10 ∷ [])
    ∙ ap (λ xs. decimal c ++ (xs ++ 10 ∷ [])) (append-nil (with_space text)))

post_is_line : (c : ℕ) (text : List ℕ) → c ≤ 15 → IsTrue (is_text text) → IsLine (posting c text)
unfolding row_of
post_is_line c text low fits = ((low, (fits, tt)), refl)

post_stands : (lines : List Phrase) (c : ℕ) (text : List ℕ) → follows (stage_of lines) role.Post ≡ true
    → nat_lt (slice_index_or (posted_of lines) c 20000) 20000 ≡ true → may_stand lines (posting c text) ≡ true
unfolding row_of
post_stands lines c text a b = (λ i. a i && b i)

post_declares : (lines : List Phrase) (c : ℕ) (text : List ℕ) → declared_of (lines ++ posting c text ∷ []) ≡ declared_of lines
unfolding row_of
post_declares lines c text = declared_push lines (posting c text)

post_starts : (d : Declared) (c : ℕ) (text : List ℕ) → IsTrue (is_declared d (posting c text))
unfolding row_of
post_starts d c text = refl

post_says : (d : Draft) (c : ℕ) (text : List ℕ) → slice_index_or d.posted c 0 ≡ lines_of_client c d.script.posts
    → with_arrival (with_last_procedure d) (record { client = c; text = text }) ≡ with_last_procedure (after_add d (posting c text))
unfolding row_of
post_says d c text each = (λ i. record (with_last_procedure d) {
  posts = d.script.posts ++ record { client = c; seq = sym each i; text = length d.script.texts } ∷ [];
  texts = d.script.texts ++ text ∷ [];
})

any_default : (k : ℕ) (ns : List ℕ) (d e : ℕ) → k < length ns → slice_index_or ns k d ≡ slice_index_or ns k e
any_default k [] d e low = absurd (omega (arith, low))
any_default zero (n ∷ ns) d e low = refl
any_default (suc k) (n ∷ ns) d e low = any_default k ns d e (omega (arith, low))

-- with one post more a text spells the script with it
spelt_more : (text : List ℕ) (script : Script) (a : Arrival) → Spells text script → a.client ≤ 15 → a.client < length script.clients
    → lines_of_client a.client script.posts < 20000 → IsTrue (is_text a.text) → length text + length (post_line a) ≤ 16777216
    → Spells (text ++ post_line a) (with_arrival script a)
spelt_more text script a h few there count fits short =
    let lines = h.0 in
    let s : SpelledBy text script lines = h.1 in
    let p : Phrase = posting a.client a.text in
    let sound = sound_all lines s.stand in
    let d = draft_of lines in
    let clients : length script.clients ≡ length d.script.clients = ap (λ (x : Script). length x.clients) s.script_is in
    let posts : lines_of_client a.client script.posts ≡ lines_of_client a.client d.script.posts
    = ap (λ (x : Script). lines_of_client a.client x.posts) s.script_is in
    let size = sound.tally.size in
    let each = sound.tally.each a.client in
    let known : a.client < length d.posted = omega (arith, there, clients, size) in
    let other = any_default a.client d.posted 20000 0 known in
    let stands = post_stands lines a.client a.text (follows_post (stage_of lines) (late_of lines sound s.some))
    (lt-ltb (slice_index_or d.posted a.client 20000) 20000 (omega (arith, count, posts, each, other))) in
    let push = fold_push after_add empty_draft lines p in
    let says : with_arrival (script_of lines) a ≡ script_of (lines ++ p ∷ [])
    = post_says d a.client a.text each ∙ ap with_last_procedure (sym push) in (
      lines ++ p ∷ [],
      record {
        text_is = (λ i. s.text_is i ++ sym (post_text a.client a.text) i)
            ∙ ap (λ xs. spelling lines ++ xs) (sym (append-nil (with_newline (phrase_text p))))
            ∙ sym (flat_map-append (λ (q : Phrase). with_newline (phrase_text q)) lines (p ∷ []));
        short = (let two = length-append text (post_line a) in omega (arith, two, short));
        are_lines = all_two IsLine lines (p ∷ []) s.are_lines (post_is_line a.client a.text few fits, tt);
        stand = stands_two [] lines p s.stand stands;
        declared = subst (λ (x : Declared). AllByRecursion (λ (q : Phrase). IsTrue (is_declared x q)) (lines ++ p ∷ [])) (sym (post_declares lines a.client a.text))
            (all_two (λ (q : Phrase). IsTrue (is_declared (declared_of lines) q)) lines (p ∷ []) s.declared (post_starts (declared_of lines) a.client a.text, tt));
        some = subst (λ (x : Script). 0 < length x.procs) says s.some;
        script_is = ap (λ (x : Script). with_arrival x a) s.script_is ∙ says;
      },
    )

-- ---- a post of the input

judged_all : (p q r : Bool) (a b : Arrival)
    → (if p then Err fault.Length else if q then Err fault.Byte else if r then Ok a else Err fault.Limit) ≡ Ok b
    → (a ≡ b) × (p ≡ false) × (q ≡ false) × (r ≡ true)
judged_all true q r a b h = absurd (cc h)
judged_all false true r a b h = absurd (cc h)
judged_all false false true a b h = (cc h, refl, refl, refl)
judged_all false false false a b h = absurd (cc h)

not_false : (b : Bool) → not b ≡ false → b ≡ true
not_false true h = refl
not_false false h = absurd (true≢false h)

-- a post has room, and its text is one
judged_post : (s : Standing) (o : Option ℕ) (text : List ℕ) (b : Arrival) → judge_by s o text ≡ Ok b → (has_room s b ≡ true) × IsTrue (is_text b.text)
judged_post s None text b h = absurd (cc h)
judged_post s (Some c) text b h =
    let a : Arrival = record { client = c; text = text } in
    let j = judged_all (nat_lt 240 (length text)) (not (is_printable text)) (has_room s a) a b h in
    let long = le-leb (length text) 240 (ltb-false 240 (length text) j.1) in
    let plain = not_false (is_printable text) j.2 in
    subst (λ (x : Arrival). (has_room s x ≡ true) × IsTrue (is_text x.text)) j.0 (j.3, (λ i. long i && plain i))

-- ---- all of them

clients_kept : (arrivals : List Arrival) (script : Script) → (fold with_arrival script arrivals).clients ≡ script.clients
clients_kept [] script = refl
clients_kept (a ∷ arrivals) script = clients_kept arrivals (with_arrival script a)

count_own : (b : Bool) (texts : List (List ℕ)) (p : Post) (xs : List Arrival) (ps : List Post)
    → length (map (λ (x : Arrival). x.text) xs) ≡ length ps
    → length (map (λ (x : Arrival). x.text) (cond b (arrival_of texts p ∷ xs) xs)) ≡ length (cond b (p ∷ ps) ps)
count_own true texts p xs ps h = omega (arith, h)
count_own false texts p xs ps h = h

own_lines : (c : ℕ) (texts : List (List ℕ)) (posts : List Post) → length (texts_by c (map (arrival_of texts) posts)) ≡ lines_of_client c posts
own_lines c texts [] = refl
own_lines c texts (p ∷ posts) = count_own (eqb p.client c) texts p (filter (λ (x : Arrival). eqb x.client c) (map (arrival_of texts) posts))
    (filter (λ (q : Post). eqb q.client c) posts) (own_lines c texts posts)

take_none : (k : ℕ) → take {A = Arrival} k [] ≡ []
take_none zero = refl
take_none (suc k) = refl

take_most : (k : ℕ) (xs : List Arrival) (a : Arrival) → (take k (xs ++ a ∷ []) ≡ take k xs) ⊎ (take k (xs ++ a ∷ []) ≡ xs ++ a ∷ [])
take_most zero xs a = inl refl
take_most (suc k) [] a = inr (ap (λ ys. a ∷ ys) (take_none k))
take_most (suc k) (x ∷ xs) a = by (take_most k xs a)
  where
    by : (take k (xs ++ a ∷ []) ≡ take k xs) ⊎ (take k (xs ++ a ∷ []) ≡ xs ++ a ∷ [])
        → (x ∷ take k (xs ++ a ∷ []) ≡ x ∷ take k xs) ⊎ (x ∷ take k (xs ++ a ∷ []) ≡ x ∷ (xs ++ a ∷ []))
    by (inl h) = inl (ap (λ ys. x ∷ ys) h)
    by (inr h) = inr (ap (λ ys. x ∷ ys) h)

module _ (text : List ℕ) (script : Script) (few : length script.clients ≤ 16) where
  abbrev SpellsWith : List Arrival → Type 0
  SpellsWith arrivals = Spells (text ++ flat_map post_line arrivals) (fold with_arrival script arrivals)

  record Told (h : Heard) : Type 0 where
    spells : SpellsWith h.posts
    first : (k : ℕ) → SpellsWith (take k h.posts)
    size : h.standing.size ≡ length (text ++ flat_map post_line h.posts)
    many : length h.standing.counts ≡ length script.clients
    each : (c : ℕ) → c < length script.clients → slice_index_or h.standing.counts c 0 ≡ lines_of_client c (fold with_arrival script h.posts).posts

  text_two : (posts : List Arrival) (a : Arrival) → (text ++ flat_map post_line posts) ++ post_line a ≡ text ++ flat_map post_line (posts ++ a ∷ [])
  text_two posts a = append_assoc text (flat_map post_line posts) (post_line a)
      ∙ ap (λ xs. text ++ xs) (ap (λ xs. flat_map post_line posts ++ xs) (sym (append-nil (post_line a))) ∙ sym (flat_map-append post_line posts (a ∷ [])))

  told_step : (h : Heard) (r : Result Arrival Fault) → ((a : Arrival) → r ≡ Ok a → (has_room h.standing a ≡ true) × IsTrue (is_text a.text))
      → Told h → Told (heard_as h r)
  told_step h (Err why) fine t = record { spells = t.spells; first = t.first; size = t.size; many = t.many; each = t.each }
  told_step h (Ok a) fine t =
      let posts = h.posts in
      let was : Script = fold with_arrival script posts in
      let ok = fine a refl in
      let parts = room_parts h.standing a ok.0 in
      let inside_counts = inside h.standing.counts a.client parts.0 in
      let many = t.many in
      let low : a.client < length script.clients = omega (arith, inside_counts, many) in
      let clients = ap length (clients_kept posts script) in
      let at = t.each a.client low in
      let other = any_default a.client h.standing.counts 20000 0 inside_counts in
      let room = parts.0 in
      let short = parts.1 in
      let size = t.size in
      let two : fold with_arrival script (posts ++ a ∷ []) ≡ with_arrival was a = fold-append with_arrival script posts (a ∷ []) in
      let more : Spells ((text ++ flat_map post_line posts) ++ post_line a) (with_arrival was a)
      = spelt_more (text ++ flat_map post_line posts) was a t.spells (omega (arith, low, few)) (omega (arith, low, clients))
      (omega (arith, at, other, room)) ok.1 (omega (arith, size, short)) in
      let all : SpellsWith (posts ++ a ∷ [])
      = subst (λ (x : Script). Spells (text ++ flat_map post_line (posts ++ a ∷ [])) x) (sym two)
      (subst (λ (xs : List ℕ). Spells xs (with_arrival was a)) (text_two posts a) more) in
      record {
        spells = all;
        first = λ k. ⊎_elim
            (λ (e : take k (posts ++ a ∷ []) ≡ take k posts). subst SpellsWith (sym e) (t.first k))
            (λ (e : take k (posts ++ a ∷ []) ≡ posts ++ a ∷ []). subst SpellsWith (sym e) all)
            (take_most k posts a);
        size = (
            let sum = length-append (text ++ flat_map post_line posts) (post_line a) in
            let same = ap length (text_two posts a) in
            omega (arith, size, sum, same)
            );
        many = counted_size a.client h.standing.counts ∙ many;
        each = λ c there.
            let now = counted_at a.client c h.standing.counts (omega (arith, there, many)) in
            let old = t.each c there in
            let one = posts_more c was.posts (record { client = a.client; seq = lines_of_client a.client was.posts; text = length was.texts }) in
            let here = ap (λ (x : Script). lines_of_client c x.posts) two in
            omega (arith, now, old, one, here);
      }

  told_on : (lines : List (List ℕ)) (h : Heard) → Told h → Told (fold heard_line h lines)
  told_on [] h t = t
  told_on (l ∷ lines) h t = told_on lines (heard_line h l)
      (told_step h (judge h.standing l) (λ a is. judged_post h.standing (client_by (length h.standing.counts) (word_of l)) (rest_of l) a is) t)

  told_start : Spells text script → Told (nothing_heard (standing_of script text))
  told_start h =
      let none : SpellsWith [] = subst (λ (xs : List ℕ). Spells xs script) (sym (append-nil text)) h in
      record {
        spells = none;
        first = λ k. subst SpellsWith (sym (take_none k)) none;
        size = ap length (sym (append-nil text));
        many = ap length (counts_are script) ∙ counts_size (length script.clients) (map (arrival_of script.texts) script.posts);
        each = λ c low. ap (λ ns. slice_index_or ns c 0) (counts_are script)
            ∙ counts_at (length script.clients) c (map (arrival_of script.texts) script.posts) low
            ∙ own_lines c script.texts script.posts;
      }

pub recorded_spelt : RecordedSpelt
unfolding recorded heard_lines
recorded_spelt text script bytes count h =
    let few = (is_posted text script h).most in
    (told_on text script few (input_lines bytes) (nothing_heard (standing_of script text)) (told_start text script few h)).first count
