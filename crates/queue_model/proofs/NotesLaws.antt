-- A desk has counted what it has noted, and serves customers in the order in which they came.
use Rattle.lwp_types.specs.CountLaws.{count-cons, one}
use Rattle.lwp_types.specs.declared.call.Answer.{Answer}
use Rattle.lwp_types.specs.declared.call.Answer.TheVariants as answer
use Rattle.lwp_types.specs.declared.call.Call.TheVariants as call
use Rattle.lwp_types.specs.declared.call.LwpErr.TheVariants as error
use Rattle.lwp_types.specs.declared.call.Mode.TheVariants as mode
use Rattle.queue_model.specs.Desks.{Desk, after_come_by, after_offer_by, calls_by, closes, coming, heard, is_deserted, opening, told_end}
use Rattle.queue_model.specs.Notes.{NobodyWaits, Note, Tells, all_of, arrivals, begins, desk_after, ends, height_of, limited, losses}
use Rattle.queue_model.specs.Notes.{noted, noted_come, noted_end, noted_offer, notes_after, served, tally_of, waits, Entered, Lost, Began, Ended}
use Rattle.queue_model.specs.Stamps.{time_of}
use Rattle.queue_model.specs.Tallies.{after_arrival, after_begin, after_end, after_loss, bar_of, capped}
use Rattle.queue_model.specs.declared.chance.Chance.{Chance}
use Rattle.std.proofs.Common.{Bool, List, None, Option, Some, [], ap, append_assoc, arith, false, length, map, min}
use Rattle.std.proofs.Common.{not, refl, reverse, subst, suc, sym, true, zero}
use Rattle.std.proofs.Common.{slice_index_or, slice_set, ℕ, ◌&&◌, ◌++◌, ◌+◌, ◌-◌, ◌<◌, ◌∙◌, ◌∷◌, ◌≡◌, ◌≢◌}
use Rattle.std.proofs.lemmas.Bool.{eq-eqb, ltb-true, ne_eqb}
use Rattle.std.proofs.lemmas.Grind.{reverse_onto}
use Rattle.std.proofs.lemmas.List.{length-append, reverse-append}
use Rattle.std.proofs.lemmas.List.Sums.{sum_by-cons}
use Rattle.std.specs.List.{range_with_len, sum}
use Rattle.std.specs.Prelude.{if◌then◌else◌, nat_lt, ◌==◌}

-- ---- the histogram

range_same : (f g : ℕ → ℕ) (a n : ℕ) → ((m : ℕ) → a < m + 1 → g m ≡ f m) → map f (range_with_len a n) ≡ map g (range_with_len a n)
range_same f g a zero same = refl
range_same f g a (suc n) same = (λ i. sym (same a (omega arith)) i ∷ range_same f g (a + 1) n (λ m h. same m (omega (arith, h))) i)

range_set : (f g : ℕ → ℕ) (c : ℕ) → ((m : ℕ) → m ≢ c → g m ≡ f m) → (a n k : ℕ) → c ≡ a + k → k < n
    → slice_set (map f (range_with_len a n)) k (g c) ≡ map g (range_with_len a n)
range_set f g c same a zero k is within = absurd (omega (arith, within))
range_set f g c same a (suc n) zero is within =
    let here : c ≡ a = omega (arith, is) in
    (λ i. g (here i) ∷ range_same f g (a + 1) n (λ m h. same m (λ e. omega (arith, h, e, here))) i)
range_set f g c same a (suc n) (suc k) is within =
    (λ i. sym (same a (λ e. omega (arith, is, e))) i ∷ range_set f g c same (a + 1) n k (omega (arith, is)) (omega (arith, within)) i)

range_at : (f : ℕ → ℕ) (a n k : ℕ) → k < n → slice_index_or (map f (range_with_len a n)) k 0 ≡ f (a + k)
range_at f a zero k within = absurd (omega (arith, within))
range_at f a (suc n) zero within = ap f (omega arith)
range_at f a (suc n) (suc k) within = range_at f (a + 1) n k (omega (arith, within)) ∙ ap f (omega arith)

-- one wait more
module _ (width wait : ℕ) (times : List ℕ) where
  here : height_of width (wait ∷ times) (bar_of wait width) ≡ capped (height_of width times (bar_of wait width)) 1
  here = omega (
    arith,
    count-cons (λ x. bar_of x width == bar_of wait width) wait times,
    ap one (eq-eqb (bar_of wait width) (bar_of wait width) refl),
  )

  elsewhere : (m : ℕ) → m ≢ bar_of wait width → height_of width (wait ∷ times) m ≡ height_of width times m
  elsewhere m other = omega (
    arith,
    count-cons (λ x. bar_of x width == m) wait times,
    ap one (ne_eqb (bar_of wait width) m (λ e. other (sym e))),
  )

  pub one_bar_more : slice_set (map (height_of width times) (range_with_len 0 32)) (bar_of wait width)
      (capped (slice_index_or (map (height_of width times) (range_with_len 0 32)) (bar_of wait width) 0) 1)
      ≡ map (height_of width (wait ∷ times)) (range_with_len 0 32)
  one_bar_more =
      ap
      (λ n. slice_set (map (height_of width times) (range_with_len 0 32)) (bar_of wait width) (capped n 1))
      (range_at (height_of width times) 0 32 (bar_of wait width) (omega arith) ∙ ap (height_of width times) (omega arith))
      ∙ ap (slice_set (map (height_of width times) (range_with_len 0 32)) (bar_of wait width)) (sym here)
      ∙ range_set (height_of width times) (height_of width (wait ∷ times)) (bar_of wait width) elsewhere 0 32 (bar_of wait width) (omega arith)
      (omega arith)

-- ---- one note more

-- counts and sums that are limited stay so
count_more : (n : ℕ) → capped (limited n) 1 ≡ limited (suc n)
count_more n = omega arith

sum_more : (t : ℕ) (times : List ℕ) → capped (limited (sum times)) t ≡ limited (sum (t ∷ times))
sum_more t times = omega (arith, sum_by-cons (λ x. x) t times)

module _ (width : ℕ) (notes : List Note) where
  arrived_more : (t : ℕ) → after_arrival t (tally_of width notes) ≡ tally_of width (Entered t ∷ notes)
  arrived_more t = (λ i. record (tally_of width notes) { came = count_more (length (all_of arrivals notes)) i; last = t })

  lost_more : (t : ℕ) → after_loss (after_arrival t (tally_of width notes)) ≡ tally_of width (Lost t ∷ notes)
  lost_more t = (λ i. record (tally_of width notes) {
    came = count_more (length (all_of arrivals notes)) i;
    lost = count_more (length (all_of losses notes)) i;
    last = t;
  })

  began_more : (came now : ℕ) → after_begin came now (tally_of width notes) ≡ tally_of width (Began came now ∷ notes)
  began_more came now = (λ i. record (tally_of width notes) {
    begun = count_more (length (all_of waits notes)) i;
    waited = sum_more (now - came) (all_of waits notes) i;
    begins = sum_more now (all_of begins notes) i;
    bars = one_bar_more width (now - came) (all_of waits notes) i;
  })

  ended_more : (now : ℕ) → after_end now (tally_of width notes) ≡ tally_of width (Ended now ∷ notes)
  ended_more now = (λ i. record (tally_of width notes) {
    ended = count_more (length (all_of ends notes)) i;
    ends = sum_more now (all_of ends notes) i;
  })

-- ---- who waits

nobody : (free waiting : List ℕ) → waiting ≡ [] → NobodyWaits free waiting
nobody [] waiting none = tt
nobody (server ∷ others) waiting none = none

one_less : (came : ℕ) (others free : List ℕ) → NobodyWaits free (came ∷ others) → NobodyWaits free others
one_less came others [] idle = tt
one_less came others (server ∷ free) idle = absurd (omega (arith, ap length idle))

-- ---- one answer more

module _ (width room : ℕ) where
  come_to_wait : (desk : Desk) (notes : List Note) → Tells width room desk notes → desk.free ≡ [] → (b : Bool)
      → nat_lt (length desk.waiting) desk.room ≡ b
      → Tells
      width
      room
      (if b then record (coming desk) { waiting = desk.waiting ++ desk.next ∷ [] } else record (coming desk) { tally = after_loss (coming desk).tally })
      ((if b then Entered desk.next else Lost desk.next) ∷ notes)
  come_to_wait desk notes h none true has_room = record {
    tally = ap (after_arrival desk.next) h.tally ∙ arrived_more width notes desk.next;
    fifo =
        ap (λ ts. desk.next ∷ ts) h.fifo
        ∙ ap (λ ts. ts ++ all_of served notes) (sym (reverse-append desk.waiting (desk.next ∷ [])));
    idle = subst (λ free. NobodyWaits free (desk.waiting ++ desk.next ∷ [])) (sym none) tt;
    room_is = h.room_is;
    fits = omega (arith, ltb-true (length desk.waiting) desk.room has_room, h.room_is, length-append desk.waiting (desk.next ∷ []));
  }
  come_to_wait desk notes h none false no_room = record {
    tally = ap (λ t. after_loss (after_arrival desk.next t)) h.tally ∙ lost_more width notes desk.next;
    fifo = h.fifo;
    idle = h.idle;
    room_is = h.room_is;
    fits = h.fits;
  }

  come : (desk : Desk) (notes : List Note) → Tells width room desk notes → (free : List ℕ) → desk.free ≡ free
      → Tells width room (after_come_by (coming desk) free) (noted_come desk free notes)
  come desk notes h [] is = come_to_wait desk notes h is (nat_lt (length desk.waiting) desk.room) refl
  come desk notes h (server ∷ others) is =
      let none : desk.waiting ≡ [] = subst (λ free. NobodyWaits free desk.waiting) is h.idle in
      record {
        tally =
            ap (λ t. after_begin desk.next desk.next (after_arrival desk.next t)) h.tally
            ∙ ap (after_begin desk.next desk.next) (arrived_more width notes desk.next)
            ∙ began_more width (Entered desk.next ∷ notes) desk.next desk.next;
        fifo =
            ap (λ ts. desk.next ∷ ts) h.fifo
            ∙ ap (λ ts. desk.next ∷ (reverse ts ++ all_of served notes)) none
            ∙ sym (ap (λ ts. reverse ts ++ desk.next ∷ all_of served notes) none);
        idle = nobody others desk.waiting none;
        room_is = h.room_is;
        fits = h.fits;
      }

  end : (desk : Desk) (notes : List Note) → Tells width room desk notes → (text : List ℕ)
      → Tells width room (told_end text desk) (noted_end text notes)
  end desk notes h [] = h
  end desk notes h (byte ∷ bytes) = record {
    tally = ap (after_end (time_of (byte ∷ bytes))) h.tally ∙ ended_more width notes (time_of (byte ∷ bytes));
    fifo = h.fifo;
    idle = h.idle;
    room_is = h.room_is;
    fits = h.fits;
  }

  offer : (desk : Desk) (notes : List Note) → Tells width room desk notes → (server : ℕ) (waiting : List ℕ) → desk.waiting ≡ waiting
      → Tells width room (after_offer_by server desk waiting) (noted_offer desk waiting notes)
  offer desk notes h server [] is = record {
    tally = h.tally;
    fifo = h.fifo;
    idle = nobody (desk.free ++ server ∷ []) desk.waiting is;
    room_is = h.room_is;
    fits = h.fits;
  }
  offer desk notes h server (came ∷ others) is = record {
    tally = ap (after_begin came desk.now) h.tally ∙ began_more width notes came desk.now;
    fifo =
        h.fifo
        ∙ ap (λ ts. reverse ts ++ all_of served notes) is
        ∙ ap (λ ts. ts ++ all_of served notes) (reverse_onto others came [])
        ∙ append_assoc (reverse others) (came ∷ []) (all_of served notes);
    idle = one_less came others desk.free (subst (NobodyWaits desk.free) is h.idle);
    room_is = h.room_is;
    fits = omega (arith, h.fits, ap length is);
  }

  -- an answer is a letter, or says that none came in time, or changes nothing
  hears : (desk : Desk) (notes : List Note) → Tells width room desk notes → (got : Answer)
      → Tells width room (heard got desk) (noted desk got notes)
  hears desk notes h (answer.Letter from text room_for) =
      offer (told_end text desk) (noted_end text notes) (end desk notes h text) from (told_end text desk).waiting refl
  hears desk notes h (answer.Refused error.NoError) = h
  hears desk notes h (answer.Refused error.NonExist) = h
  hears desk notes h (answer.Refused error.Timeout) = come desk notes h desk.free refl
  hears desk notes h (answer.Refused error.InUse) = h
  hears desk notes h (answer.Refused error.InvalidArg) = h
  hears desk notes h (answer.Refused error.NoRoom) = h
  hears desk notes h (answer.Refused error.NotOwned) = h
  hears desk notes h (answer.Refused error.IllPrio) = h
  hears desk notes h (answer.Refused error.NoWait) = h
  hears desk notes h (answer.Value n) = h
  hears desk notes h (answer.Thread t) = h
  hears desk notes h (answer.Monitor m) = h
  hears desk notes h (answer.Cond c) = h
  hears desk notes h (answer.Reply text) = h
  hears desk notes h (answer.Bound func arg) = h
  hears desk notes h (answer.Caught depth mark pattern) = h
  hears desk notes h (answer.Ids kind list) = h

  -- its next call changes nothing of that
  waits_on : (desk : Desk) (notes : List Note) → Tells width room desk notes → (more over : Bool)
      → Tells
      width
      room
      (if more then (call.Recv None (mode.Until (min (desk.next - desk.now) 4294967295)), desk)
      else (if over then closes desk else (call.Recv None mode.Block, desk))).1
      notes
  waits_on desk notes h true over = h
  waits_on desk notes h false true = record { tally = h.tally; fifo = h.fifo; idle = h.idle; room_is = h.room_is; fits = h.fits }
  waits_on desk notes h false false = h

  goes_on : (desk : Desk) (notes : List Note) → Tells width room desk notes → (server : Option ℕ)
      → Tells width room (calls_by desk server).1 notes
  goes_on desk notes h None = waits_on desk notes h (nat_lt 0 desk.left) (is_deserted desk && not desk.closed)
  goes_on desk notes h (Some server) = record { tally = h.tally; fifo = h.fifo; idle = h.idle; room_is = h.room_is; fits = h.fits }

  tells : (desk : Desk) → Tells width room desk [] → (answers : List Answer)
      → Tells width room (desk_after desk answers) (notes_after desk answers)
  tells desk h [] = h
  tells desk h (got ∷ earlier) =
      let before = desk_after desk earlier in
      let after = heard got before in
      goes_on after (notes_after desk (got ∷ earlier)) (hears before (notes_after desk earlier) (tells desk h earlier) got) after.begins

pub desks-tell : (customers room width : ℕ) (gaps : Chance) (answers : List Answer)
    → Tells width room (desk_after (opening customers gaps room width) answers) (notes_after (opening customers gaps room width) answers)
desks-tell customers room width gaps answers =
    tells width room (opening customers gaps room width) (record { tally = refl; fifo = refl; idle = tt; room_is = refl; fits = omega arith }) answers
