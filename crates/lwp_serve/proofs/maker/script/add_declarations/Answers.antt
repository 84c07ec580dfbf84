use Rattle.std.proofs.Common.{◌≡◌, ℕ, List, ◌++◌, Result, Ok, Err, ap, ◌∙◌, append_assoc}
use Rattle.std.specs.Prelude.{OnOk, codes}
use Rattle.lwp_serve.specs.Maker.Made.{each, client_line}
use Rattle.lwp_serve.specs.declared.maker.script.ClientLine.TheVariants as line
use Rattle.lwp_serve.proofs.maker.script.add_declarations.Goals as goal

on_ok : {A E : Type 0} (r : Result A E) (P Q : Type 0) → (P → Q) → OnOk r P → OnOk r Q
on_ok (Ok a) P Q f h = f h
on_ok (Err e) P Q f h = h

-- four parts, one after the other
four : (old a b c d x y z all : List ℕ) → x ≡ old ++ a → y ≡ x ++ b → z ≡ y ++ c → all ≡ z ++ d → all ≡ old ++ (a ++ (b ++ (c ++ d)))
four old a b c d x y z all e f g h =
    h
    ∙ ap (λ (l : List ℕ). l ++ d) (g ∙ ap (λ (l : List ℕ). l ++ c) (f ∙ ap (λ (l : List ℕ). l ++ b) e))
    ∙ append_assoc ((old ++ a) ++ b) c d
    ∙ append_assoc (old ++ a) b (c ++ d)
    ∙ append_assoc old a (b ++ (c ++ d))

pub returns : goal.returns
returns c =
    let clients = each (client_line line.Client) c.args.threads in
    let sessions = each (client_line line.Native) c.args.threads in
    on_ok c.add_client_lines-2.result _ _
    (four c.args.out.now.items (codes "lwp 1\npod 2\n") clients (codes "native db store\n") sessions c.add_text.new.out.items
    c.add_client_lines.new.out.items c.add_text-2.new.out.items c.add_client_lines-2.new.out.items c.in_ok-add_text.ensures
    c.in_ok-add_client_lines.ensures c.in_ok-add_text-2.ensures)
    c.add_client_lines-2.ensures
