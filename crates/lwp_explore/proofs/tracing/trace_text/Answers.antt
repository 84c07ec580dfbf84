use Rattle.lwp_explore.proofs.SearchedLaws.{nexts_within}
use Rattle.lwp_explore.proofs.TracingLaws.{l_low, leads_now, many_now, none_says, says_now, whole_now}
use Rattle.lwp_explore.proofs.tracing.trace_text.Goals as goal
use Rattle.lwp_explore.specs.Cycles.{AreWithin}
use Rattle.lwp_explore.specs.declared.listing.Listed.{Listed}
use Rattle.std.proofs.Common.{List, ap, arith, get_or, length, refl, subst, sym, ◌-◌, ◌∙◌}

pub kinds_in-requires : goal.kinds_in-requires
kinds_in-requires c =
    nexts_within c.args.machine.now.script c.args.machine.now.sought c.args.cores c.in_ok-found.found c.in_ok-found.ensures

pub returns-then-number-len : goal.returns-then-number-len
returns-then-number-len c =
    let s = c.args.machine.now in
    let kinds = c.in_ok-all.ensures.kinds in
    none_says s.script s.sought c.args.cores c.in_ok-found.found c.in_ok-found.ensures c.requires.posted.most c.requires.some c.requires.few
    kinds.0 kinds.1.sound (λ _. kinds.1.all) c.args.number c.new.result.items
    (omega (arith, c.if-number-len.true, c.len.ensures, c.in_ok-all.all.1.ok.0, ap (λ (l : List Listed). length l) kinds.2)) c.new.ensures.items

pub whole_path-requires-clause-within : goal.whole_path-requires-clause-within
whole_path-requires-clause-within c = subst (λ n. AreWithin n) (sym (c.deref-2.ensures.value ∙ c.in_ok-all.ensures.nexts))
    (nexts_within c.args.machine.now.script c.args.machine.now.sought c.args.cores c.in_ok-found.found c.in_ok-found.ensures)

pub whole_path-requires-clause-start : goal.whole_path-requires-clause-start
whole_path-requires-clause-start c =
    let s = c.args.machine.now in
    let kinds = c.in_ok-all.ensures.kinds in
    let low = l_low s.script s.sought c.args.cores c.in_ok-found.found c.in_ok-found.ensures c.requires.posted.most c.requires.some c.requires.few
    kinds.0 kinds.1.sound (λ _. kinds.1.all) (c.args.number - 1)
    (omega (arith, c.requires.number, c.if-number-len.false, c.len.ensures, c.in_ok-all.all.1.ok.0, ap (λ (l : List Listed). length l) kinds.2))
    c.index.result.now (c.index.ensures ∙ ap (λ (l : List Listed). get_or l (c.args.number - 1) c.index.result.now) kinds.2) in
    omega (arith, low, ap length c.deref.ensures.value)

pub whole_path-requires-clause-same : goal.whole_path-requires-clause-same
whole_path-requires-clause-same c =
    many_now c.in_ok-found.found.rows.items _ c.in_ok-found.found.lasts.items _ c.deref.ensures.value (c.deref-2.ensures.value ∙ c.in_ok-all.ensures.nexts)

pub trace_along-requires-clause-leads : goal.trace_along-requires-clause-leads
trace_along-requires-clause-leads c =
    let s = c.args.machine.now in
    let kinds = c.in_ok-all.ensures.kinds in
    let whole = whole_now c.in_ok-found.found.rows.items c.deref.result.now _ c.deref-2.result.now c.index.result.now c.in_ok-path.path.items
    c.deref.ensures.value (c.deref-2.ensures.value ∙ c.in_ok-all.ensures.nexts) c.in_ok-path.ensures in
    leads_now s.script s.sought c.args.cores c.in_ok-found.found c.in_ok-found.ensures c.requires.posted.most c.requires.some c.requires.few
    kinds.0 kinds.1.sound (λ _. kinds.1.all) (c.args.number - 1)
    (omega (arith, c.requires.number, c.if-number-len.false, c.len.ensures, c.in_ok-all.all.1.ok.0, ap (λ (l : List Listed). length l) kinds.2))
    c.index.result.now (c.index.ensures ∙ ap (λ (l : List Listed). get_or l (c.args.number - 1) c.index.result.now) kinds.2)
    whole.0 whole.1 c.in_ok-path.path.items whole.2 c.deref-3.result.now c.deref-3.ensures.value

pub returns : goal.returns
returns c =
    let s = c.args.machine.now in
    let kinds = c.in_ok-all.ensures.kinds in
    let whole = whole_now c.in_ok-found.found.rows.items c.deref.result.now _ c.deref-2.result.now c.index.result.now c.in_ok-path.path.items
    c.deref.ensures.value (c.deref-2.ensures.value ∙ c.in_ok-all.ensures.nexts) c.in_ok-path.ensures in
    says_now s.script s.sought c.args.cores c.in_ok-found.found c.in_ok-found.ensures c.requires.posted.most c.requires.some c.requires.few
    kinds.0 kinds.1.sound (λ _. kinds.1.all) (c.args.number - 1)
    (omega (arith, c.requires.number, c.if-number-len.false, c.len.ensures, c.in_ok-all.all.1.ok.0, ap (λ (l : List Listed). length l) kinds.2))
    c.index.result.now (c.index.ensures ∙ ap (λ (l : List Listed). get_or l (c.args.number - 1) c.index.result.now) kinds.2)
    whole.0 whole.1 c.in_ok-path.path.items whole.2 c.args.number c.deref-3.result.now c.in_ok-text.text.items c.deref-3.ensures.value refl
    c.requires.number c.in_ok-text.ensures
