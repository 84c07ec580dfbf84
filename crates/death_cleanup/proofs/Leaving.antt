-- The frames above the first ones go.
use Rattle.death_cleanup.proofs.Living.{written-marks}
use Rattle.death_cleanup.proofs.Unwinding.{Unwinding, below_fewer, exit_room, marks-are, marks_left, popped, popped_lawful, unwinds_on, unwinds_over, told}
use Rattle.death_cleanup.specs.Comes.{CameTo, HasRoom}
use Rattle.death_cleanup.specs.Moves.{after_set_stack, kind_with_marks, kind_marks}
use Rattle.death_cleanup.specs.Ties.{LawfulParts}
use Rattle.death_cleanup.specs.View.{state_of}
use Rattle.death_cleanup.specs.declared.parts.Parts.{Parts}
use Rattle.death_cleanup.specs.declared.rows.Kind.{Kind}
use Rattle.exc_stack.specs.Stack.{UnwindsTo, below_last_exit, unwound_to}
use Rattle.lwp_types.specs.CountLaws.{count-append}
use Rattle.lwp_types.specs.Counts.{has_its_marks}
use Rattle.lwp_types.specs.Exceptions.{exits_of, first_frames, frames, later_frames}
use Rattle.lwp_types.specs.Exits.{run_exit, unwind}
use Rattle.lwp_types.specs.Lawful.{is_same_option}
use Rattle.lwp_types.specs.State.{State, ThreadRow, is_number, is_thread, marks_in, thread_of}
use Rattle.lwp_types.specs.declared.call.Effect.{Effect}
use Rattle.lwp_types.specs.declared.rows.ExitMark.{ExitMark}
use Rattle.lwp_types.specs.declared.rows.Mark.{Mark}
use Rattle.pod_laws.proofs.Chosen.{Living, living}
use Rattle.pod_laws.proofs.Elements.{all_found, find_passes}
use Rattle.pod_laws.proofs.MarkLists.{Fewer, first_based, frames_split, is_based, stack_fewer, stack_from}
use Rattle.stale_ids.specs.Register.{AreRising, value_of, with_value}
use Rattle.std.proofs.Common.{Bool, List, None, Option, Some, [], ap, arith, count_by, false, length}
use Rattle.std.proofs.Common.{refl, sym, true, ℕ, ◌++◌, ◌+◌, ◌<◌, ◌∙◌, ◌∷◌, ◌≡◌, ◌≤◌, ◌||◌}
use Rattle.std.proofs.lemmas.Bool.{eqb-true}
use Rattle.std.specs.Prelude.{is_some, option_map, option_to_list, unwrap_or}

-- what the thread's record in the registry has
pub marks-here : (parts : Parts) (t : ℕ) (k : Kind) → AreRising parts.ids.live → value_of t parts.ids.live ≡ Some k
    → marks_in (state_of parts) t ≡ kind_marks (Some k)
marks-here parts t k rising is = marks-are parts t rising ∙ ap kind_marks is

pub left-here : (parts : Parts) (t depth : ℕ) (k : Kind) → AreRising parts.ids.live → value_of t parts.ids.live ≡ Some k
    → record parts { ids = record parts.ids { live = with_value t (kind_with_marks (unwound_to depth (kind_marks (Some k))).left k) parts.ids.live } }
    ≡ after_set_stack parts t (unwound_to depth (marks_in (state_of parts) t)).left
left-here parts t depth k rising is =
    ap (λ ps. record parts { ids = record parts.ids { live = ps } }) (written-marks t (λ ms. (unwound_to depth ms).left) parts.ids.live k rising is)
    ∙ ap (λ ms. after_set_stack parts t (unwound_to depth ms).left) (sym (marks-are parts t rising))

-- with a frame to stay, somebody is there
pub deep-none : (parts : Parts) (t depth : ℕ) → AreRising parts.ids.live → value_of t parts.ids.live ≡ None → 1 ≤ depth
    → depth ≤ frames (marks_in (state_of parts) t) → ⊥
deep-none parts t depth rising none least most = omega (arith, least, most, ap frames (marks-are parts t rising ∙ ap kind_marks none))

pub deep-lives : (s : State) (t depth : ℕ) → 1 ≤ depth → depth ≤ frames (marks_in s t) → is_thread s t ≡ true
deep-lives s t depth least most = by_row (thread_of s t) most
  where
    by_row : (o : Option ThreadRow) → depth ≤ frames (unwrap_or (option_map (λ (row : ThreadRow). row.marks) o) []) → is_some o ≡ true
    by_row None h = absurd (omega (arith, least, h))
    by_row (Some row) h = refl

based-append : (xs ys : List Mark) → is_based xs ≡ true → is_based (xs ++ ys) ≡ true
based-append [] ys e = absurd (cc)
based-append (x ∷ xs) ys e = e

-- what is left has fewer marks, and a frame at its bottom
left_fewer : (depth : ℕ) (ms : List Mark) → Fewer (unwound_to depth ms).left ms
left_fewer depth ms p = omega (
  arith,
  count-append p (first_frames depth ms) (below_last_exit (later_frames depth ms)),
  below_fewer (later_frames depth ms) p,
  count-append p (first_frames depth ms) (later_frames depth ms),
  ap (count_by p) (frames_split depth ms),
)

left_stack : (depth : ℕ) (ms : List Mark) → 1 ≤ depth → has_its_marks ms ≡ true → has_its_marks (unwound_to depth ms).left ≡ true
left_stack depth ms least e = stack_fewer ms (unwound_to depth ms).left (left_fewer depth ms)
    (based-append (first_frames depth ms) (below_last_exit (later_frames depth ms)) (first_based depth ms least (stack_from ms e).based)) e

module _ (t depth : ℕ) where
  -- the exit procedures of the frames that go
  abbrev pub above : List Mark → List ExitMark
  above ms = exits_of (later_frames depth ms)

  -- the frames that stay
  abbrev pub stays : Parts → List Mark
  stays start = first_frames depth (marks_in (state_of start) t)

  -- a stack that begins with these, and has so many frames
  abbrev pub Fits : Parts → List Mark → Type 0
  Fits start ms = (first_frames depth ms ≡ first_frames depth (marks_in (state_of start) t)) × (depth ≤ frames ms)

  module _ (start : Parts) (before : List Effect) where
    abbrev pub Leaving : Parts → List Effect → Type 0
    Leaving parts after = Unwinding t above (stays start) (Fits start) start before parts after

    pub leaving_starts : LawfulParts start → 1 ≤ depth → depth ≤ frames (marks_in (state_of start) t)
        → HasRoom before (unwind t (stays start) (later_frames depth (marks_in (state_of start) t)) (state_of start)) 1 → Leaving start before
    leaving_starts lawful least most room = record {
      lawful = lawful;
      lives = deep-lives (state_of start) t depth least most;
      fits = (refl, most);
      dying = refl;
      state = refl;
      effects = refl;
      room = room;
    }

    module _ (parts : Parts) (after : List Effect) (h : Leaving parts after) (least : 1 ≤ depth) where
      abbrev pub stack : List Mark
      stack = marks_in (state_of parts) t

      abbrev pub left : List Mark
      left = (unwound_to depth stack).left

      abbrev pub lighter : Parts
      lighter = popped t above (stays start) (Fits start) start before parts after h left

      who : Living (state_of parts) t
      who = living (state_of parts) t h.lives

      -- the dying thread or a stack that may be
      has-stack : (is_same_option parts.dying t || has_its_marks stack) ≡ true
      has-stack =
          let numbered : who.row.number ≡ t = eqb-true who.row.number t (find_passes (is_number t) (state_of parts).threads who.row who.known) in
          ap (λ o. is_same_option parts.dying t || has_its_marks (unwrap_or (option_map (λ (row : ThreadRow). row.marks) o) [])) who.known
          ∙ ap (λ n. is_same_option parts.dying n || has_its_marks who.row.marks) (sym numbered)
          ∙ all_found (is_number t) (λ row. is_same_option parts.dying row.number || has_its_marks row.marks) (state_of parts).threads
          who.row h.lawful.nine.marks who.known

      still-stack : (is_same_option parts.dying t || has_its_marks left) ≡ true
      still-stack = by_test (is_same_option parts.dying t) has-stack
        where
          by_test : (b : Bool) → (b || has_its_marks stack) ≡ true → (b || has_its_marks left) ≡ true
          by_test true e = refl
          by_test false e = left_stack depth stack least e

      module _ (o : Option ExitMark) (steps : UnwindsTo depth stack left o) where
        module _ (x : ExitMark) (is : o ≡ Some x) where
          first : above stack ≡ x ∷ above left
          first = steps.next ∙ ap (λ p. option_to_list p ++ above left) is

          shorter : length left < length stack
          shorter = rw is at steps.shrinks

          pub leaving_lawful : LawfulParts lighter
          leaving_lawful = popped_lawful t above (stays start) (Fits start) start before parts after h left (left_fewer depth stack) still-stack

          pub leaving_room : length after + 2 ≤ 2048
          leaving_room = omega (arith, exit_room t above (stays start) (Fits start) start before parts after h left x first, told t x (state_of parts))

          fit : Fits start left
          fit = (steps.stays ∙ h.fits.0, steps.has_frames)

          module _ (new : Parts) (now : List Effect) (came : CameTo lighter new after now (run_exit t x (state_of lighter))) (nine : LawfulParts new) where
            pub leaving_fewer : length (marks_in (state_of new) t) < length (marks_in (state_of parts) t)
            leaving_fewer =
                omega (arith, shorter, ap length (marks_left t above (stays start) (Fits start) start before parts after h left x first new now came nine fit))

            pub leaving_on : Leaving new now
            leaving_on = unwinds_on t above (stays start) (Fits start) start before parts after h left x first new now came nine fit

        pub leaving_over : o ≡ None
            → CameTo start lighter before after (unwind t (stays start) (later_frames depth (marks_in (state_of start) t)) (state_of start))
        leaving_over is = unwinds_over t above (stays start) (Fits start) start before parts after h left ((rw is at steps.last).0 refl)
            ((rw is at steps.rest) ∙ h.fits.0)
