use Rattle.death_cleanup.proofs.Example.{lawful_parts}
use Rattle.tests_of_pods.proofs.deaths.parts.Goals as goal

pub returns-clause-same : goal.returns-clause-same
returns-clause-same c =
    rw (c.in_ok-all_waiting.ensures, c.in_ok-scheduled.ensures, c.in_ok-posted.ensures, c.in_ok-held.ensures, c.in_ok-waited.ensures, c.in_ok-armed.ensures)

pub returns-clause-lawful : goal.returns-clause-lawful
returns-clause-lawful c =
    rw
    (c.in_ok-all_waiting.ensures, c.in_ok-scheduled.ensures, c.in_ok-posted.ensures, c.in_ok-held.ensures, c.in_ok-waited.ensures, c.in_ok-armed.ensures)
    record {
      nine = lawful_parts.nine;
      step = record {
        tied = record { known = lawful_parts.step.tied.known; waits = lawful_parts.step.tied.waits };
        ranked = record { requests = lawful_parts.step.ranked.requests; waits = lawful_parts.step.ranked.waits };
        roomy = record {
          letters = lawful_parts.step.roomy.letters;
          threads = lawful_parts.step.roomy.threads;
          requests = lawful_parts.step.roomy.requests;
          waits = lawful_parts.step.roomy.waits;
        };
        monitors = lawful_parts.step.monitors;
        conditions = lawful_parts.step.conditions;
        noted = c.in_ok-noted.ensures;
      };
    }
