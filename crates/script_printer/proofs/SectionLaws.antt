-- The sections of a printed script, one after the other.
use Rattle.std.proofs.Common.{◌≡◌, ℕ, false, true, cond, eqb, List, [], ◌∷◌, ◌++◌, map, ap, append_assoc, refl, sym, ◌∙◌}
use Rattle.std.specs.List.{flat_map}
use Rattle.std.proofs.lemmas.List.{append-nil}
use Rattle.std.specs.Prelude.{codes}
use Rattle.std.specs.Fmt.{decimal}
use Rattle.script_lines.specs.declared.table.Op.TheVariants as op
use Rattle.script_lines.specs.Line.{phrase_text, with_newline}
use Rattle.script_text.specs.Grammar.{spelling}
use Rattle.script_lines.specs.Phrase.{Phrase}
use Rattle.script_printer.specs.Building.{number_line}
use Rattle.script_printer.specs.Printing.{limit_lines, client_lines, native_line, proc_lines, post_line, body_lines, text_of_script}
use Rattle.script_text.specs.declared.script.Names.{Names}
use Rattle.script_lines.specs.Table.{row_of}
use Rattle.script_text.specs.declared.script.Native.{Native}
use Rattle.script_text.specs.declared.script.Post.{Post}
use Rattle.script_text.specs.declared.script.Proc.{Proc}
use Rattle.script_text.specs.declared.script.Script.{Script}

pub limit_none : (births : ℕ) → eqb births 4294967295 ≡ true → spelling (limit_lines births) ≡ []
limit_none births e = ap (λ v. spelling (cond v [] (number_line op.Limit births ∷ []))) e

pub limit_some : (births : ℕ) → eqb births 4294967295 ≡ false → spelling (limit_lines births) ≡ codes "limit births " ++ (decimal births ++ codes "\n")
unfolding row_of
limit_some births e =
    ap (λ v. spelling (cond v [] (number_line op.Limit births ∷ []))) e
    ∙ append-nil (with_newline (phrase_text (number_line op.Limit births)))
    ∙ ap (λ l. codes "limit births " ++ (l ++ codes "\n")) (append-nil (decimal births))

spelling_append : (xs ys : List Phrase) → spelling (xs ++ ys) ≡ spelling xs ++ spelling ys
spelling_append [] ys = refl
spelling_append (p ∷ ps) ys = ap (λ (l : List ℕ). with_newline (phrase_text p) ++ l) (spelling_append ps ys)
    ∙ sym (append_assoc (with_newline (phrase_text p)) (spelling ps) (spelling ys))

body_text : (names : Names) (texts : List (List ℕ)) (clients : List ℕ) (natives : List Native) (procs : List Proc) (posts : List Post)
    → spelling (body_lines names texts clients natives procs posts)
    ≡ spelling (client_lines 0 clients)
    ++ (spelling (map (native_line names) natives) ++ (spelling (flat_map (proc_lines names texts) procs) ++ spelling (map (post_line texts) posts)))
body_text names texts clients natives procs posts =
    spelling_append (client_lines 0 clients) (map (native_line names) natives ++ (flat_map (proc_lines names texts) procs ++ map (post_line texts) posts))
    ∙ ap (λ (l : List ℕ). spelling (client_lines 0 clients) ++ l) (
    spelling_append (map (native_line names) natives) (flat_map (proc_lines names texts) procs ++ map (post_line texts) posts)
    ∙ ap (λ (l : List ℕ). spelling (map (native_line names) natives) ++ l)
    (spelling_append (flat_map (proc_lines names texts) procs) (map (post_line texts) posts))
    )

-- lists that are put after one another in turn
in_turn : (a b c d e f g : List ℕ) → (((((a ++ b) ++ c) ++ d) ++ e) ++ f) ++ g ≡ a ++ (b ++ (c ++ (d ++ (e ++ (f ++ g)))))
in_turn a b c d e f g =
    append_assoc ((((a ++ b) ++ c) ++ d) ++ e) f g
    ∙ append_assoc (((a ++ b) ++ c) ++ d) e (f ++ g)
    ∙ append_assoc ((a ++ b) ++ c) d (e ++ (f ++ g))
    ∙ append_assoc (a ++ b) c (d ++ (e ++ (f ++ g)))
    ∙ append_assoc a b (c ++ (d ++ (e ++ (f ++ g))))

-- the text of a script, section by section
pub printed_in_turn : (s : Script)
    → ((((((with_newline (phrase_text (number_line op.Lwp 1)) ++ with_newline (phrase_text (number_line op.Pod s.maxpri))) ++ spelling (limit_lines s.births))
    ++ spelling (client_lines 0 s.clients))
    ++ spelling (map (native_line s.names) s.natives))
    ++ spelling (flat_map (proc_lines s.names s.texts) s.procs))
    ++ spelling (map (post_line s.texts) s.posts))
    ≡ text_of_script s
unfolding text_of_script
printed_in_turn s =
    let a = with_newline (phrase_text (number_line op.Lwp 1)) in
    let b = with_newline (phrase_text (number_line op.Pod s.maxpri)) in
    let body = body_lines s.names s.texts s.clients s.natives s.procs s.posts in
    in_turn a b (spelling (limit_lines s.births)) (spelling (client_lines 0 s.clients)) (spelling (map (native_line s.names) s.natives))
    (spelling (flat_map (proc_lines s.names s.texts) s.procs)) (spelling (map (post_line s.texts) s.posts))
    ∙ ap (λ (l : List ℕ). a ++ (b ++ l))
    (sym (spelling_append (limit_lines s.births) body
    ∙ ap (λ (l : List ℕ). spelling (limit_lines s.births) ++ l) (body_text s.names s.texts s.clients s.natives s.procs s.posts)))
