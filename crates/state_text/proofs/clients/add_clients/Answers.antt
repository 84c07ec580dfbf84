use Rattle.state_text.proofs.Telling.{place_all, place_more}
use Rattle.state_text.specs.Text.{client_line, client_lines}
use Rattle.std.proofs.Common.{refl, sym}
use Rattle.state_text.proofs.clients.add_clients.Goals as goal

pub loop-i-preserved : goal.loop-i-preserved
loop-i-preserved c =
    let taken = c.args.taken.now in
    place_more (client_lines taken) (client_line taken) (λ n. refl) (λ n x xs. refl) c.loop-i.out.items _ c.args.clients.now c.loop-i.i
    c.loop-i.invariant c.add_client.new.out.items _ c.loop-i-test.true (c.in_ok-add_client.ensures taken (sym c.taken_of.ensures))

pub returns : goal.returns
returns c =
    let taken = c.args.taken.now in
    place_all (client_lines taken) (client_line taken) (λ n. refl) (λ n x xs. refl) c.loop-i.out.items _ c.args.clients.now c.loop-i.i
    c.loop-i.invariant c.loop-i-test.false
