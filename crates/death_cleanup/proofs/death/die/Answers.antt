use Rattle.death_cleanup.proofs.Dying.{died, died_lawful, died_most, forgotten7, lawful1, lawful2, lonely4, room1}
use Rattle.death_cleanup.proofs.Dying.{room2, room3, room4, room5, room6, room7, threads5, threads6, unowning3}
use Rattle.death_cleanup.proofs.death.die.Goals as goal
use Rattle.death_cleanup.specs.Named.{run_number}
use Rattle.death_cleanup.specs.declared.rows.Awaited.TheVariants as awaited
use Rattle.std.proofs.Common.{arith, ◌+◌, ◌≡◌}

pub run_all_exits-requires-clause-lawful : goal.run_all_exits-requires-clause-lawful
run_all_exits-requires-clause-lawful c = lawful1 c.args.parts.now c.args.tid c.requires.lawful c.requires.alone c.requires.lives
    c.args.effects.now c.requires.room c.withdraw.new.parts c.withdraw.ensures.after c.withdraw.ensures.dying c.withdraw.ensures.step

pub run_all_exits-requires-clause-room : goal.run_all_exits-requires-clause-room
run_all_exits-requires-clause-room c = room1 c.args.parts.now c.args.tid c.requires.lawful c.requires.alone c.requires.lives
    c.args.effects.now c.requires.room c.withdraw.new.parts c.withdraw.ensures.after c.withdraw.ensures.dying c.withdraw.ensures.step

pub release_all-requires-clause-lawful : goal.release_all-requires-clause-lawful
release_all-requires-clause-lawful c = lawful2 c.args.parts.now c.args.tid c.requires.lawful c.requires.alone c.requires.lives
    c.args.effects.now c.requires.room c.withdraw.new.parts c.withdraw.ensures.after c.withdraw.ensures.dying c.withdraw.ensures.step
    c.run_all_exits.new.parts c.run_all_exits.new.effects c.run_all_exits.ensures.came

pub release_all-requires-clause-room : goal.release_all-requires-clause-room
release_all-requires-clause-room c = room2 c.args.parts.now c.args.tid c.requires.lawful c.requires.alone c.requires.lives
    c.args.effects.now c.requires.room c.withdraw.new.parts c.withdraw.ensures.after c.withdraw.ensures.dying c.withdraw.ensures.step
    c.run_all_exits.new.parts c.run_all_exits.new.effects c.run_all_exits.ensures.came

pub end_agents-requires-clause-unowning : goal.end_agents-requires-clause-unowning
end_agents-requires-clause-unowning c =
    unowning3 c.args.parts.now c.args.tid c.requires.lawful c.requires.alone c.requires.lives c.args.effects.now c.requires.room
    c.withdraw.new.parts c.withdraw.ensures.after c.withdraw.ensures.dying c.withdraw.ensures.step c.run_all_exits.new.parts
    c.run_all_exits.new.effects c.run_all_exits.ensures.came c.release_all.new.parts c.release_all.new.effects c.release_all.ensures.came

pub end_agents-requires-clause-room : goal.end_agents-requires-clause-room
end_agents-requires-clause-room c = room3 c.args.parts.now c.args.tid c.requires.lawful c.requires.alone c.requires.lives c.args.effects.now
    c.requires.room c.withdraw.new.parts c.withdraw.ensures.after c.withdraw.ensures.dying c.withdraw.ensures.step c.run_all_exits.new.parts
    c.run_all_exits.new.effects c.run_all_exits.ensures.came c.release_all.new.parts c.release_all.new.effects c.release_all.ensures.came

pub refuse_senders-requires-clause-lonely : goal.refuse_senders-requires-clause-lonely
refuse_senders-requires-clause-lonely c = lonely4 c.args.parts.now c.args.tid c.requires.lawful c.requires.alone c.requires.lives
    c.args.effects.now c.requires.room c.withdraw.new.parts c.withdraw.ensures.after c.withdraw.ensures.dying c.withdraw.ensures.step
    c.run_all_exits.new.parts c.run_all_exits.new.effects c.run_all_exits.ensures.came c.release_all.new.parts c.release_all.new.effects
    c.release_all.ensures.came c.end_agents.new.parts c.end_agents.new.effects c.end_agents.ensures.came

pub refuse_senders-requires-clause-room : goal.refuse_senders-requires-clause-room
refuse_senders-requires-clause-room c = room4 c.args.parts.now c.args.tid c.requires.lawful c.requires.alone c.requires.lives
    c.args.effects.now c.requires.room c.withdraw.new.parts c.withdraw.ensures.after c.withdraw.ensures.dying c.withdraw.ensures.step
    c.run_all_exits.new.parts c.run_all_exits.new.effects c.run_all_exits.ensures.came c.release_all.new.parts c.release_all.new.effects
    c.release_all.ensures.came c.end_agents.new.parts c.end_agents.new.effects c.end_agents.ensures.came

pub dismiss-requires-clause-threads : goal.dismiss-requires-clause-threads
dismiss-requires-clause-threads c = threads5 c.args.parts.now c.args.tid c.requires.lawful c.requires.alone c.requires.lives
    c.args.effects.now c.requires.room c.withdraw.new.parts c.withdraw.ensures.after c.withdraw.ensures.dying c.withdraw.ensures.step
    c.run_all_exits.new.parts c.run_all_exits.new.effects c.run_all_exits.ensures.came c.release_all.new.parts c.release_all.new.effects
    c.release_all.ensures.came c.end_agents.new.parts c.end_agents.new.effects c.end_agents.ensures.came c.refuse_senders.new.parts
    c.refuse_senders.new.effects c.refuse_senders.ensures.came

pub dismiss-requires-clause-room : goal.dismiss-requires-clause-room
dismiss-requires-clause-room c = room5 c.args.parts.now c.args.tid c.requires.lawful c.requires.alone c.requires.lives c.args.effects.now
    c.requires.room c.withdraw.new.parts c.withdraw.ensures.after c.withdraw.ensures.dying c.withdraw.ensures.step c.run_all_exits.new.parts
    c.run_all_exits.new.effects c.run_all_exits.ensures.came c.release_all.new.parts c.release_all.new.effects c.release_all.ensures.came
    c.end_agents.new.parts c.end_agents.new.effects c.end_agents.ensures.came c.refuse_senders.new.parts c.refuse_senders.new.effects
    c.refuse_senders.ensures.came

pub dismiss-requires-2-clause-start : goal.dismiss-requires-2-clause-start
dismiss-requires-2-clause-start c =
    let next : run_number awaited.Letter c.args.tid + 1 ≡ run_number awaited.Death c.args.tid = omega arith in
    rw next at c.dismiss.ensures.next

pub dismiss-requires-2-clause-threads : goal.dismiss-requires-2-clause-threads
dismiss-requires-2-clause-threads c = threads6 c.args.parts.now c.args.tid c.requires.lawful c.requires.alone c.requires.lives
    c.args.effects.now c.requires.room c.withdraw.new.parts c.withdraw.ensures.after c.withdraw.ensures.dying c.withdraw.ensures.step
    c.run_all_exits.new.parts c.run_all_exits.new.effects c.run_all_exits.ensures.came c.release_all.new.parts c.release_all.new.effects
    c.release_all.ensures.came c.end_agents.new.parts c.end_agents.new.effects c.end_agents.ensures.came c.refuse_senders.new.parts
    c.refuse_senders.new.effects c.refuse_senders.ensures.came c.dismiss.new.parts c.dismiss.new.effects c.dismiss.ensures.came

pub dismiss-requires-2-clause-room : goal.dismiss-requires-2-clause-room
dismiss-requires-2-clause-room c = room6 c.args.parts.now c.args.tid c.requires.lawful c.requires.alone c.requires.lives c.args.effects.now
    c.requires.room c.withdraw.new.parts c.withdraw.ensures.after c.withdraw.ensures.dying c.withdraw.ensures.step c.run_all_exits.new.parts
    c.run_all_exits.new.effects c.run_all_exits.ensures.came c.release_all.new.parts c.release_all.new.effects c.release_all.ensures.came
    c.end_agents.new.parts c.end_agents.new.effects c.end_agents.ensures.came c.refuse_senders.new.parts c.refuse_senders.new.effects
    c.refuse_senders.ensures.came c.dismiss.new.parts c.dismiss.new.effects c.dismiss.ensures.came

pub bury-requires-clause-forgotten : goal.bury-requires-clause-forgotten
bury-requires-clause-forgotten c = forgotten7 c.args.parts.now c.args.tid c.requires.lawful c.requires.alone c.requires.lives
    c.args.effects.now c.requires.room c.withdraw.new.parts c.withdraw.ensures.after c.withdraw.ensures.dying c.withdraw.ensures.step
    c.run_all_exits.new.parts c.run_all_exits.new.effects c.run_all_exits.ensures.came c.release_all.new.parts c.release_all.new.effects
    c.release_all.ensures.came c.end_agents.new.parts c.end_agents.new.effects c.end_agents.ensures.came c.refuse_senders.new.parts
    c.refuse_senders.new.effects c.refuse_senders.ensures.came c.dismiss.new.parts c.dismiss.new.effects c.dismiss.ensures.came
    c.dismiss-2.new.parts c.dismiss-2.new.effects c.dismiss-2.ensures.came

pub bury-requires-clause-room : goal.bury-requires-clause-room
bury-requires-clause-room c = room7 c.args.parts.now c.args.tid c.requires.lawful c.requires.alone c.requires.lives c.args.effects.now
    c.requires.room c.withdraw.new.parts c.withdraw.ensures.after c.withdraw.ensures.dying c.withdraw.ensures.step c.run_all_exits.new.parts
    c.run_all_exits.new.effects c.run_all_exits.ensures.came c.release_all.new.parts c.release_all.new.effects c.release_all.ensures.came
    c.end_agents.new.parts c.end_agents.new.effects c.end_agents.ensures.came c.refuse_senders.new.parts c.refuse_senders.new.effects
    c.refuse_senders.ensures.came c.dismiss.new.parts c.dismiss.new.effects c.dismiss.ensures.came c.dismiss-2.new.parts
    c.dismiss-2.new.effects c.dismiss-2.ensures.came

pub returns-clause-came : goal.returns-clause-came
returns-clause-came c = died c.args.parts.now c.args.tid c.requires.lawful c.requires.alone c.requires.lives c.args.effects.now
    c.requires.room c.withdraw.new.parts c.withdraw.ensures.after c.withdraw.ensures.dying c.withdraw.ensures.step c.run_all_exits.new.parts
    c.run_all_exits.new.effects c.run_all_exits.ensures.came c.release_all.new.parts c.release_all.new.effects c.release_all.ensures.came
    c.end_agents.new.parts c.end_agents.new.effects c.end_agents.ensures.came c.refuse_senders.new.parts c.refuse_senders.new.effects
    c.refuse_senders.ensures.came c.dismiss.new.parts c.dismiss.new.effects c.dismiss.ensures.came c.dismiss-2.new.parts
    c.dismiss-2.new.effects c.dismiss-2.ensures.came c.bury.new.parts c.bury.new.effects c.bury.ensures.after c.bury.ensures.effects
    c.bury.ensures.step c.bury.ensures.alone

pub returns-clause-lawful : goal.returns-clause-lawful
returns-clause-lawful c = died_lawful c.args.parts.now c.args.tid c.requires.lawful c.requires.alone c.requires.lives c.args.effects.now
    c.requires.room c.withdraw.new.parts c.withdraw.ensures.after c.withdraw.ensures.dying c.withdraw.ensures.step c.run_all_exits.new.parts
    c.run_all_exits.new.effects c.run_all_exits.ensures.came c.release_all.new.parts c.release_all.new.effects c.release_all.ensures.came
    c.end_agents.new.parts c.end_agents.new.effects c.end_agents.ensures.came c.refuse_senders.new.parts c.refuse_senders.new.effects
    c.refuse_senders.ensures.came c.dismiss.new.parts c.dismiss.new.effects c.dismiss.ensures.came c.dismiss-2.new.parts
    c.dismiss-2.new.effects c.dismiss-2.ensures.came c.bury.new.parts c.bury.new.effects c.bury.ensures.after c.bury.ensures.effects
    c.bury.ensures.step c.bury.ensures.alone

pub returns-clause-most : goal.returns-clause-most
returns-clause-most c = died_most c.args.parts.now c.args.tid c.requires.lawful c.requires.alone c.requires.lives c.args.effects.now
    c.requires.room c.withdraw.new.parts c.withdraw.ensures.after c.withdraw.ensures.dying c.withdraw.ensures.step c.run_all_exits.new.parts
    c.run_all_exits.new.effects c.run_all_exits.ensures.came c.release_all.new.parts c.release_all.new.effects c.release_all.ensures.came
    c.end_agents.new.parts c.end_agents.new.effects c.end_agents.ensures.came c.refuse_senders.new.parts c.refuse_senders.new.effects
    c.refuse_senders.ensures.came c.dismiss.new.parts c.dismiss.new.effects c.dismiss.ensures.came c.dismiss-2.new.parts
    c.dismiss-2.new.effects c.dismiss-2.ensures.came c.bury.new.parts c.bury.new.effects c.bury.ensures.after c.bury.ensures.effects
    c.bury.ensures.step c.bury.ensures.alone
