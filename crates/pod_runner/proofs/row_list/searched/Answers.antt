use Rattle.std.proofs.Common.{◌≡◌, ◌≤◌, ◌<◌, ◌∙◌, ◌+◌, ◌-◌, ◌/◌, ap, arith, length, rules, sym}
use Rattle.pod_runner.specs.declared.session.Row.{Row}
use Rattle.pod_runner.proofs.Rising.{all_before, all_after, missing_between, place_found}
use Rattle.pod_runner.proofs.row_list.searched.Goals as goal

pub loop-low-init : goal.loop-low-init
loop-low-init g c = (
  omega arith,
  omega (arith, c.len-high.ensures),
  (λ k d low. absurd (omega (arith, low))),
  λ k d over low. absurd (omega (arith, over, low, c.len-high.ensures)),
)

pub returns-then-eq : goal.returns-then-eq
returns-then-eq g c =
    let middle = c.loop-low.low + (c.loop-low.high - c.loop-low.low) / 2 in
    let within : middle < length c.args.rows.now.items = search rules in
    let named : c.index.result.now.tid ≡ c.args.tid = search rules in
    sym (place_found c.args.tid c.args.rows.now.items middle c.index.result.now c.requires within (ap (λ (r : Row _). r.tid) (sym c.index.ensures) ∙ named))

pub loop-low-preserved-then-is_older : goal.loop-low-preserved-then-is_older
loop-low-preserved-then-is_older g c =
    let middle = c.loop-low.low + (c.loop-low.high - c.loop-low.low) / 2 in
    let within : middle < length c.args.rows.now.items = search rules in
    let below : middle + 1 ≤ c.loop-low.high = search rules in
    let older : c.index.result.now.tid < c.args.tid = search rules in (
      below,
      c.loop-low.invariant.1,
      all_before c.args.tid c.args.rows.now.items middle c.index.result.now c.requires within c.index.ensures older,
      c.loop-low.invariant.3,
    )

pub loop-low-preserved : goal.loop-low-preserved
loop-low-preserved g c =
    let middle = c.loop-low.low + (c.loop-low.high - c.loop-low.low) / 2 in
    let within : middle < length c.args.rows.now.items = search rules in
    let above : c.loop-low.low ≤ middle = search rules in
    let younger : c.args.tid < c.index.result.now.tid = search rules in (
      above,
      omega (arith, within),
      c.loop-low.invariant.2,
      all_after c.args.tid c.args.rows.now.items middle c.index.result.now c.requires within c.index.ensures younger,
    )

pub returns : goal.returns
returns g c =
    let met : c.loop-low.high ≤ c.loop-low.low = search rules in
    omega (
      arith,
      c.len.ensures,
      missing_between c.args.tid c.args.rows.now.items c.loop-low.low c.loop-low.high met c.loop-low.invariant.2 c.loop-low.invariant.3,
    )
