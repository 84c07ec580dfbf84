-- What `answers_main` writes is a first part of the answers.
use Rattle.answer_laws.proofs.Planning.{plans_are_sessions}
use Rattle.answer_laws.proofs.ScriptTexts.{spelt_clients_are_written}
use Rattle.answer_laws.specs.Results.{AnswersAreFirst}
use Rattle.lwp_serve.specs.Answers.Replies.{answers_after}
use Rattle.lwp_serve.specs.Plan.Planned.{calls_of}
use Rattle.lwp_types.specs.Streams.{after_append}
use Rattle.pod_runner.specs.declared.session.Took.{Took}
use Rattle.std.proofs.Common.{List, ap, sym, ◌∙◌}

pub answers_are_first : AnswersAreFirst
answers_are_first text script spells client turns calls old new takes halt told s k in_s in_k event place apart begins_s body_s begins_k body_k served e a
    of_event one_agent replies =
    let whole = told.planned in
    let first = spelt_clients_are_written text script spells takes calls whole.left whole.due whole.history s k in_s in_k event place apart
    begins_s body_s begins_k body_k served client e a of_event one_agent replies in
    record {
      bytes = answers_after client script takes calls;
      written = told.written ∙ ap (λ bytes. after_append old bytes) (plans_are_sessions script turns client
          ∙ ap (λ (ts : List Took). answers_after client script ts (calls_of script turns)) (sym whole.taken)
          ∙ ap (λ n. answers_after client script takes n) (sym whole.made));
      first = first;
    }
