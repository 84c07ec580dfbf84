-- What the desk counts, each up to the greatest u64.
use Rattle.queue_model.specs.declared.tally.Tally.{Tally}
use Rattle.std.specs.Prelude.{List, codes, decimal, min, replicate, slice_index, slice_set, ℕ, ◌++◌, ◌+◌, ◌-◌, ◌/◌}

-- a sum, or the greatest u64
abbrev pub capped : ℕ → ℕ → ℕ
capped a b = min (a + b) 18446744073709551615

-- nothing was counted
abbrev pub no_tally : ℕ → Tally
no_tally width = record {
  came = 0;
  lost = 0;
  begun = 0;
  waited = 0;
  begins = 0;
  ended = 0;
  ends = 0;
  last = 0;
  bars = replicate 32 0;
  width = width;
}

-- a customer came
abbrev pub after_arrival : ℕ → Tally → Tally
after_arrival now t = record t { came = capped t.came 1; last = now }

-- one was lost
abbrev pub after_loss : Tally → Tally
after_loss t = record t { lost = capped t.lost 1 }

-- the bar of the histogram that a wait belongs to
abbrev pub bar_of : ℕ → ℕ → ℕ
bar_of wait width = min (wait / width) 31

-- one who came then begins to be served
abbrev pub after_begin : ℕ → ℕ → Tally → Tally
after_begin came now t = record t {
  begun = capped t.begun 1;
  waited = capped t.waited (now - came);
  begins = capped t.begins now;
  bars = slice_set t.bars (bar_of (now - came) t.width) (capped (slice_index t.bars (bar_of (now - came) t.width)) 1);
}

-- one was served
abbrev pub after_end : ℕ → Tally → Tally
after_end now t = record t { ended = capped t.ended 1; ends = capped t.ends now }

-- what is told of the customers in the end
abbrev pub summary : Tally → List ℕ
summary t = codes "came " ++ decimal t.came ++ codes " lost " ++ decimal t.lost ++ codes " waited " ++ decimal t.waited
