use Rattle.death_cleanup.specs.View.{state_of}
use Rattle.lwp_calls.proofs.Made.{ComesTo-is}
use Rattle.lwp_calls.proofs.thread_calls.join.Goals as goal
use Rattle.lwp_types.specs.Case.{silent_case, unless}
use Rattle.lwp_types.specs.State.{still}
use Rattle.lwp_types.specs.Threads.{join}
use Rattle.lwp_types.specs.Unblock.{after_block}
use Rattle.lwp_types.specs.declared.rows.Block.TheVariants as block
use Rattle.std.proofs.Common.{refl, sym, ◌≡◌}

pub returns-then-not-is_thread : goal.returns-then-not-is_thread
unfolding unless
returns-then-not-is_thread c = ComesTo-is (rw (sym c.if-not-is_thread.ensures) refl) c.requires.step refl

pub returns-then-eq : goal.returns-then-eq
unfolding unless
returns-then-eq c = ComesTo-is (rw (sym c.if-not-is_thread.ensures, sym c.if-eq.ensures) refl) c.requires.step refl

pub returns : goal.returns
unfolding unless
returns c =
    let is : join (state_of c.args.parts.now) c.args.caller c.args.tid
    ≡ silent_case (still (after_block (state_of c.args.parts.now) c.args.caller (block.Joining c.args.tid))) =
    rw (sym c.if-not-is_thread.ensures, sym c.if-eq.ensures) refl in
    rw is (record { came = c.block.ensures; own = refl })
