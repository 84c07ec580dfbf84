-- What holds of the lines that a script posts, line by line of its text.
use Rattle.event_gate.proofs.Lines.{numbered_snoc, of_other, of_same, same_or}
use Rattle.event_gate.specs.Port.{IsNumbered, of}
use Rattle.script_body.specs.Posted.{IsPosted}
use Rattle.lwp_types.specs.declared.call.Line.{Line}
use Rattle.script_text.proofs.TrackLaws.{fold_push}
use Rattle.script_lines.proofs.WordLemmas.{both}
use Rattle.script_text.specs.Grammar.{AllStand, SpelledBy, Spells, declared_of, follows, keeps_rule, posted_of, spelling, stage_of}
use Rattle.script_lines.specs.Line.{IsLine, IsPhrase, SlotFits, phrase_text}
use Rattle.script_text.specs.Meaning.{after_add, after_add_at, after_enter, after_name, after_raise, draft_of, empty_draft, places_of, script_of}
use Rattle.script_lines.specs.Phrase.{Phrase}
use Rattle.script_text.specs.Script.{line_of}
use Rattle.script_lines.proofs.TableLaws.{only_of_role}
use Rattle.script_lines.specs.Table.{row_of, role_of, slots_of}
use Rattle.script_text.specs.declared.draft.Draft.{Draft}
use Rattle.script_text.specs.declared.draft.Places.{Places}
use Rattle.script_text.specs.declared.reader.Declared.{Declared}
use Rattle.script_text.specs.declared.script.Post.{Post}
use Rattle.script_text.specs.declared.script.Script.{Script}
use Rattle.script_lines.specs.declared.table.Op.{Op}
use Rattle.script_lines.specs.declared.table.Op.TheVariants as op
use Rattle.script_lines.specs.declared.table.Role.{Role}
use Rattle.script_lines.specs.declared.table.Role.TheVariants as role
use Rattle.std.specs.List.{AllByRecursion}
use Rattle.std.specs.Prelude.{All}
use Rattle.std.proofs.Common.{List, [], ap, append_assoc, arith, length, length-append, map, nat_lt, refl, slice_index_or}
use Rattle.std.proofs.Common.{subst, suc, sym, true, zero, ℕ, ⊎_elim, ◌++◌, ◌+◌, ◌<◌, ◌∙◌, ◌∷◌, ◌≡◌, ◌≢◌, ◌≤◌}
use Rattle.std.proofs.lemmas.Bool.{eqb-true, ltb-true}
use Rattle.std.proofs.lemmas.List.{append-nil, length-map, map-append}
use Rattle.std.proofs.lemmas.List.Elements.{All-map, All-nil, All-push, All-weaker}

abbrev IsOf : ℕ → Post → Type 0
IsOf n post = post.client < n

abbrev IsLow : ℕ → Type 0
IsLow e = e ≤ 31

-- the lines of one client, whatever their texts are
abbrev of_posts : List (List ℕ) → ℕ → List Post → List Line
of_posts texts c posts = of c (map (line_of texts) posts)

-- what holds after so many lines
record Posted (n : ℕ) (d : Draft) : Type 0 where
  counts : length d.posted ≡ length d.script.clients
  most : length d.script.clients ≤ 16
  events : All IsLow d.script.clients
  clients : All (IsOf (length d.script.clients)) d.script.posts
  numbered : (texts : List (List ℕ)) (c : ℕ) → IsNumbered 0 (of_posts texts c d.script.posts)
  counted : (texts : List (List ℕ)) (c : ℕ) → length (of_posts texts c d.script.posts) ≡ slice_index_or d.posted c 0
  bounded : (c : ℕ) → slice_index_or d.posted c 0 ≤ 20000
  few : length d.script.posts ≤ n

-- ---- the counts

length-raised : (c : ℕ) (ns : List ℕ) → length (after_raise c ns) ≡ length ns
length-raised c [] = refl
length-raised zero (n ∷ ns) = refl
length-raised (suc c) (n ∷ ns) = ap suc (length-raised c ns)

raised-same : (c : ℕ) (ns : List ℕ) → c < length ns → slice_index_or (after_raise c ns) c 0 ≡ suc (slice_index_or ns c 0)
raised-same c [] h = absurd (omega (arith, h))
raised-same zero (n ∷ ns) h = refl
raised-same (suc c) (n ∷ ns) h = raised-same c ns (omega (arith, h))

raised-other : (c d : ℕ) (ns : List ℕ) → c ≢ d → slice_index_or (after_raise c ns) d 0 ≡ slice_index_or ns d 0
raised-other c d [] h = refl
raised-other zero zero (n ∷ ns) h = absurd (h refl)
raised-other zero (suc d) (n ∷ ns) h = refl
raised-other (suc c) zero (n ∷ ns) h = refl
raised-other (suc c) (suc d) (n ∷ ns) h = raised-other c d ns (λ e. h (ap suc e))

-- one client more that has posted nothing
none-more : (c : ℕ) (ns : List ℕ) → slice_index_or (ns ++ 0 ∷ []) c 0 ≡ slice_index_or ns c 0
none-more zero [] = refl
none-more (suc c) [] = refl
none-more zero (n ∷ ns) = refl
none-more (suc c) (n ∷ ns) = none-more c ns

-- a client that may post is one of the clients
may-post : (posted : List ℕ) (c : ℕ) → nat_lt (slice_index_or posted c 20000) 20000 ≡ true → (c < length posted) × (slice_index_or posted c 0 < 20000)
may-post [] c h = absurd cc
may-post (n ∷ ns) zero h = (omega arith, ltb-true n 20000 h)
may-post (n ∷ ns) (suc c) h = let more = may-post ns c h in (omega (arith, more.0), more.1)

-- ---- a line more

-- the number of a client is 15 at most, and its event 31
client_fits : (o : Op) (p : Phrase) → role_of o ≡ role.Client → AllByRecursion (SlotFits p) (slots_of o) → (p.client ≤ 15) × (p.event ≤ 31)
unfolding row_of
client_fits o p e h = let g = subst (λ x. AllByRecursion (SlotFits p) (slots_of x)) (only_of_role role.Client op.Client refl o e) h in (g.0, g.1.0)

kept : (n : ℕ) (d e : Draft) → Posted n d → e.posted ≡ d.posted → e.script.clients ≡ d.script.clients → e.script.posts ≡ d.script.posts → Posted (suc n) e
kept n d e h posted clients posts = record {
  counts = ap length posted ∙ h.counts ∙ ap length (sym clients);
  most = omega (arith, h.most, ap length clients);
  events = rw clients h.events;
  clients = rw (clients, posts) h.clients;
  numbered = λ texts c. rw posts (h.numbered texts c);
  counted = λ texts c. rw (posts, posted) (h.counted texts c);
  bounded = λ c. rw posted (h.bounded c);
  few = omega (arith, h.few, ap length posts);
}

client_more : (n : ℕ) (at : Places) (d : Draft) (p : Phrase) → p.client ≡ length d.posted → p.client ≤ 15 → p.event ≤ 31 → Posted n d
    → Posted (suc n) (after_add_at role.Client at (after_enter d p) p)
client_more n at d p is fits low h = record {
  counts = omega (arith, h.counts, length-append d.posted (0 ∷ []), length-append d.script.clients (p.event ∷ []));
  most = omega (arith, h.counts, is, fits, length-append d.script.clients (p.event ∷ []));
  events = All-push IsLow d.script.clients p.event h.events low;
  clients = All-weaker (IsOf (length d.script.clients)) (IsOf (length (d.script.clients ++ p.event ∷ [])))
      (λ post less. omega (arith, less, length-append d.script.clients (p.event ∷ []))) d.script.posts h.clients;
  numbered = h.numbered;
  counted = λ texts c. h.counted texts c ∙ sym (none-more c d.posted);
  bounded = λ c. omega (arith, h.bounded c, none-more c d.posted);
  few = omega (arith, h.few);
}

post_more : (n : ℕ) (at : Places) (d : Draft) (p : Phrase) → p.client < length d.posted → slice_index_or d.posted p.client 0 < 20000
    → Posted n d → Posted (suc n) (after_add_at role.Post at (after_enter d p) p)
post_more n at d p known small h = record {
  counts = length-raised p.client d.posted ∙ h.counts;
  most = h.most;
  events = h.events;
  clients = All-push (IsOf (length d.script.clients)) d.script.posts post h.clients (omega (arith, known, h.counts));
  numbered = λ texts c. ⊎_elim
      (λ (same : p.client ≡ c). rw (more texts, of_same c (map (line_of texts) d.script.posts) (line_of texts post) same)
      (numbered_snoc 0 (of_posts texts c d.script.posts) (line_of texts post) (h.numbered texts c)
      (omega (arith, h.counted texts c, ap (λ k. slice_index_or d.posted k 0) same)) (omega (arith, small))))
      (λ (other : p.client ≢ c). rw (more texts, of_other c (map (line_of texts) d.script.posts) (line_of texts post) other) (h.numbered texts c))
      (same_or p.client c);
  counted = λ texts c. ⊎_elim
      (λ (same : p.client ≡ c). rw (more texts, of_same c (map (line_of texts) d.script.posts) (line_of texts post) same) (omega (
        arith,
        h.counted texts c,
        length-append (of_posts texts c d.script.posts) (line_of texts post ∷ []),
        raised-same p.client d.posted known,
        ap (λ k. slice_index_or d.posted k 0) same,
        ap (λ k. slice_index_or (after_raise p.client d.posted) k 0) same,
      )))
      (λ (other : p.client ≢ c). rw (more texts, of_other c (map (line_of texts) d.script.posts) (line_of texts post) other)
      (h.counted texts c ∙ sym (raised-other p.client c d.posted other)))
      (same_or p.client c);
  bounded = λ c. ⊎_elim
      (λ (same : p.client ≡ c). omega (arith, small, raised-same p.client d.posted known, ap (λ k. slice_index_or (after_raise p.client d.posted) k 0) same))
      (λ (other : p.client ≢ c). omega (arith, h.bounded c, raised-other p.client c d.posted other))
      (same_or p.client c);
  few = omega (arith, h.few, length-append d.script.posts (post ∷ []));
}
  where
    post : Post
    post = record { client = p.client; seq = slice_index_or d.posted p.client 0; text = at.text }

    more : (texts : List (List ℕ)) → map (line_of texts) (d.script.posts ++ post ∷ []) ≡ map (line_of texts) d.script.posts ++ line_of texts post ∷ []
    more texts = map-append (line_of texts) d.script.posts (post ∷ [])

posted_more : (r : Role) (n : ℕ) (known : Declared) (at : Places) (d : Draft) (p : Phrase) → role_of p.op ≡ r
    → keeps_rule known d.posted r p ≡ true → IsPhrase p → Posted n d → Posted (suc n) (after_add_at r at (after_enter d p) p)
posted_more role.Header n known at d p e k f h = kept n d (after_add_at role.Header at (after_enter d p) p) h refl refl refl
posted_more role.Pod n known at d p e k f h = kept n d (after_add_at role.Pod at (after_enter d p) p) h refl refl refl
posted_more role.Limit n known at d p e k f h = kept n d (after_add_at role.Limit at (after_enter d p) p) h refl refl refl
posted_more role.Client n known at d p e k f h = let fits = client_fits p.op p e f in
    client_more n at d p (eqb-true p.client (length d.posted) k) fits.0 fits.1 h
posted_more role.Native n known at d p e k f h = kept n d (after_add_at role.Native at (after_enter d p) p) h refl refl refl
posted_more role.Proc n known at d p e k f h = kept n d (after_add_at role.Proc at (after_enter d p) p) h refl refl refl
posted_more role.Post n known at d p e k f h = let may = may-post d.posted p.client k in post_more n at d p may.0 may.1 h
posted_more role.Statement n known at d p e k f h = kept n d (after_add_at role.Statement at (after_enter d p) p) h refl refl refl
posted_more role.Skip n known at d p e k f h = kept n d (after_add_at role.Skip at (after_enter d p) p) h refl refl refl
posted_more role.Again n known at d p e k f h = kept n d (after_add_at role.Again at (after_enter d p) p) h refl refl refl

posted_on : (n : ℕ) (before ps : List Phrase) → AllStand before ps → AllByRecursion IsLine ps → Posted n (draft_of before)
    → Posted (n + length ps) (draft_of (before ++ ps))
posted_on n before [] s l h = rw (append-nil before) (subst (λ (m : ℕ). Posted m (draft_of before)) (omega arith) h)
posted_on n before (p ∷ ps) s l h =
    let r = role_of p.op in
    let d = draft_of before in
    let k = (both (follows (stage_of before) r) (keeps_rule (declared_of before) (posted_of before) r p) s.0).1 in
    let one = posted_more r n (declared_of before) (places_of (after_name d.script.names p) d.script.texts p) d p refl k l.0.0 h in
    let more : Posted (suc n) (draft_of (before ++ p ∷ [])) = rw (fold_push after_add empty_draft before p) one in
    let all : Posted (suc n + length ps) (draft_of ((before ++ p ∷ []) ++ ps)) = posted_on (suc n) (before ++ p ∷ []) ps s.1 l.1 more in
    subst (λ (m : ℕ). Posted m (draft_of (before ++ (p ∷ ps)))) (omega arith)
    (subst (λ (x : List Phrase). Posted (suc n + length ps) (draft_of x)) (append_assoc before (p ∷ []) ps) all)

-- ---- the whole text

-- each line has its end at least
lines_short : (lines : List Phrase) → length lines ≤ length (spelling lines)
lines_short [] = omega arith
lines_short (p ∷ ps) = omega (arith, lines_short ps, length-append (phrase_text p ++ 10 ∷ []) (spelling ps), length-append (phrase_text p) (10 ∷ []))

posted_start : Posted 0 empty_draft
posted_start = record {
  counts = refl;
  most = omega arith;
  events = All-nil IsLow;
  clients = All-nil (IsOf 0);
  numbered = λ texts c. tt;
  counted = λ texts c. refl;
  bounded = λ c. omega arith;
  few = omega arith;
}

lines_are_posted : (text : List ℕ) (script : Script) (lines : List Phrase) → SpelledBy text script lines → IsPosted (script_of lines)
lines_are_posted text script lines h =
    let d = draft_of lines in
    let all = posted_on 0 [] lines h.stand h.are_lines posted_start in
    let same : length text ≡ length (spelling lines) = ap length h.text_is in
    record {
      most = all.most;
      events = all.events;
      clients = All-map (λ (line : Line). line.client < length d.script.clients) (line_of d.script.texts) d.script.posts all.clients;
      numbered = all.numbered d.script.texts;
      each = λ c. omega (arith, all.counted d.script.texts c, all.bounded c);
      few = omega (arith, all.few, length-map d.script.posts (line_of d.script.texts), h.short, same, lines_short lines);
    }

pub is_posted : (text : List ℕ) (script : Script) → Spells text script → IsPosted script
is_posted text script h = subst IsPosted (sym h.1.script_is) (lines_are_posted text script h.0 h.1)
