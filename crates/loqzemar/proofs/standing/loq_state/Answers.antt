use Rattle.c_pods.specs.Effects.{put_front}
use Rattle.c_pods.specs.Standing.{text_of_state}
use Rattle.loqzemar.proofs.Asking.{that_of}
use Rattle.loqzemar.proofs.standing.loq_state.Goals as goal
use Rattle.loqzemar.specs.Asked.{room_status}
use Rattle.std.proofs.Common.{length, ◌≡◌}
use Rattle.std.specs.Prelude.{◌≢◌}

pub returns-clause-status : goal.returns-clause-status
returns-clause-status c =
    that_of (λ held. c.write_state-status.result ≢ 1 → c.write_state-status.result ≡ room_status (length (text_of_state held)) (length c.args.out.now))
    c.in-Some.ensures.pod c.deref.ensures c.write_state-status.ensures.status

pub returns-clause-len : goal.returns-clause-len
returns-clause-len c =
    that_of (λ held. c.write_state-status.result ≢ 1 → c.write_state-status.new.len ≡ length (text_of_state held))
    c.in-Some.ensures.pod c.deref.ensures c.write_state-status.ensures.len

pub returns-clause-text : goal.returns-clause-text
returns-clause-text c =
    that_of (λ held. c.write_state-status.result ≢ 1 → c.write_state-status.new.out ≡ put_front (text_of_state held) c.args.out.now)
    c.in-Some.ensures.pod c.deref.ensures c.write_state-status.ensures.text
