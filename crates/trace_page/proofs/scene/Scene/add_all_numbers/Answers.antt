use Rattle.std.proofs.Common.{ap, arith, ◌++◌, ◌-◌, ◌≡◌}
use Rattle.trace_page.proofs.EachLaws.{no_number, one_number}
use Rattle.trace_page.specs.Frame.{number_text, tenths}
use Rattle.trace_page.specs.Waits.{each_from}
use Rattle.trace_page.proofs.scene.Scene.add_all_numbers.Goals as goal

pub loop-n-init : goal.loop-n-init
loop-n-init c =
    let same : c.tenths-count.result - 0 ≡ tenths c.args.self.now = omega (arith, c.tenths-count.ensures.value) in
    ap (λ k. c.args.out.now.items ++ each_from (number_text c.args.self.now) 0 k) same

pub loop-n-preserved : goal.loop-n-preserved
loop-n-preserved c = one_number _ c.loop-n.out.items _ c.loop-n.n c.tenths-count.result c.loop-n.invariant c.loop-n-test.true
    c.add_call_number.new.out.items c.in_ok-add_call_number.ensures

pub returns : goal.returns
returns c = no_number _ c.loop-n.out.items _ c.loop-n.n c.tenths-count.result c.loop-n.invariant c.loop-n-test.false
