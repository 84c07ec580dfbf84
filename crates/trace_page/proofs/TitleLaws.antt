-- Each line is a title, and texts are plain.
use Rattle.std.proofs.Common.{Bool, List, None, Option, Some, [], ap, cond, eqb, false, length, ltb, refl, sym, true, ℕ, ◌∙◌, ◌∷◌, ◌≡◌}
use Rattle.std.specs.List.{list_all}
use Rattle.std.proofs.lemmas.List.Folds.{list_all-append}
use Rattle.trace_lines.specs.Entries.{entry_of}
use Rattle.trace_lines.specs.declared.entry.Entry.{Entry}
use Rattle.trace_lines.specs.declared.entry.Entry.TheVariants as entry
use Rattle.trace_lines.specs.declared.entry.Gain.{Gain}
use Rattle.trace_lines.specs.declared.entry.Gain.TheVariants as gain
use Rattle.trace_lines.specs.declared.entry.Verb.{Verb}
use Rattle.trace_lines.specs.declared.entry.Verb.TheVariants as verb
use Rattle.trace_page.specs.Page.{after_entry_by, after_line, after_lines, after_note_by}
use Rattle.trace_page.specs.Scene.{Seen, after_draw, after_put, lane_of, opening, place, with_lane}
use Rattle.trace_page.specs.Shapes.{escaped_byte, escaped_text}
use Rattle.trace_page.specs.Steps.{after_act, after_carry_out, after_create, after_draw_said, after_entry, after_exit, after_give_up}
use Rattle.trace_page.specs.Steps.{after_grant, after_meet, after_meet_thread, after_name, after_note, after_park, after_say}
use Rattle.trace_page.specs.Steps.{after_set, after_settle, is_past, is_shown, room, with_agent}
use Rattle.trace_page.specs.Titles.{LinesAreTitles, TextsArePlain, is_plain, titles}
use Rattle.trace_page.specs.declared.scene.Lane.{Lane}
use Rattle.trace_page.specs.declared.scene.Shape.TheVariants as shape

-- ---- the first call that is drawn stays

base_met : (id event owner : ℕ) (s : Seen) → (after_meet id event owner s).base ≡ s.base
base_met id event owner s = by (ltb (place id s.lanes) (length s.lanes))
  where
    by : (b : Bool) → (cond b s (with_lane id event owner s)).base ≡ s.base
    by true = refl
    by false = refl

base_parked : (b : Bool) (id : ℕ) (s : Seen) → (after_park b id s).base ≡ s.base
base_parked true id s = refl
base_parked false id s = refl

base_given : (tid : ℕ) (v : Verb) (s : Seen) → (after_give_up tid v s).base ≡ s.base
base_given tid verb.Wait s = refl
base_given tid verb.Create s = refl
base_given tid verb.Destroy s = refl
base_given tid verb.Suspend s = refl
base_given tid verb.Resume s = refl
base_given tid verb.Join s = refl
base_given tid verb.Sleep s = refl
base_given tid verb.Send s = refl
base_given tid verb.Receive s = refl
base_given tid verb.Enter s = refl
base_given tid verb.CondEnter s = refl
base_given tid verb.MonExit s = refl
base_given tid verb.MonBreak s = refl
base_given tid verb.Agent s = refl
base_given tid verb.OnExit s = refl
base_given tid verb.Say s = refl
base_given tid verb.Other s = refl

base_created : (lane : Lane) (g : Gain) (s : Seen) → (after_create lane g s).base ≡ s.base
base_created lane (gain.Thread u) s = base_parked lane.suspended u _ ∙ base_met u 0 _ (after_name u s)
base_created lane (gain.Value n) s = refl
base_created lane (gain.Letter n) s = refl
base_created lane gain.Reply s = refl
base_created lane gain.Caught s = refl
base_created lane gain.Refused s = refl
base_created lane gain.Other s = refl

base_agent : (lane : Lane) (g : Gain) (s : Seen) → (with_agent lane g s).base ≡ s.base
base_agent lane (gain.Thread u) s = base_met u lane.target lane.id s
base_agent lane (gain.Value n) s = refl
base_agent lane (gain.Letter n) s = refl
base_agent lane gain.Reply s = refl
base_agent lane gain.Caught s = refl
base_agent lane gain.Refused s = refl
base_agent lane gain.Other s = refl

base_set : (lane : Lane) (g : Gain) (s : Seen) → (after_set lane g s).base ≡ s.base
base_set lane (gain.Value n) s = refl
base_set lane (gain.Thread u) s = refl
base_set lane (gain.Letter n) s = refl
base_set lane gain.Reply s = refl
base_set lane gain.Caught s = refl
base_set lane gain.Refused s = refl
base_set lane gain.Other s = refl

base_granted : (lane : Lane) (v : Verb) (g : Gain) (s : Seen) → (after_grant lane v g s).base ≡ s.base
base_granted lane verb.Create g s = base_created lane g s
base_granted lane verb.Agent g s = base_agent lane g s
base_granted lane verb.OnExit g s = base_set lane g s
base_granted lane verb.Destroy g s = refl
base_granted lane verb.Suspend g s = refl
base_granted lane verb.Resume g s = refl
base_granted lane verb.Enter g s = refl
base_granted lane verb.CondEnter g s = refl
base_granted lane verb.MonExit g s = refl
base_granted lane verb.MonBreak g s = refl
base_granted lane verb.Wait g s = refl
base_granted lane verb.Join g s = refl
base_granted lane verb.Sleep g s = refl
base_granted lane verb.Send g s = refl
base_granted lane verb.Receive g s = refl
base_granted lane verb.Say g s = refl
base_granted lane verb.Other g s = refl

base_settled : (lane : Lane) (g : Gain) (s : Seen) → (after_settle lane g s).base ≡ s.base
base_settled lane gain.Refused s = refl
base_settled lane (gain.Value n) s = base_granted lane lane.verb (gain.Value n) s
base_settled lane (gain.Thread n) s = base_granted lane lane.verb (gain.Thread n) s
base_settled lane (gain.Letter n) s = base_granted lane lane.verb (gain.Letter n) s
base_settled lane gain.Reply s = base_granted lane lane.verb gain.Reply s
base_settled lane gain.Caught s = base_granted lane lane.verb gain.Caught s
base_settled lane gain.Other s = base_granted lane lane.verb gain.Other s

base_carried : (tid : ℕ) (v : Verb) (target : ℕ) (s : Seen) → (after_carry_out tid v target s).base ≡ s.base
base_carried tid verb.MonExit target s = refl
base_carried tid verb.MonBreak target s = refl
base_carried tid verb.Resume target s = refl
base_carried tid verb.Create target s = refl
base_carried tid verb.Destroy target s = refl
base_carried tid verb.Suspend target s = refl
base_carried tid verb.Join target s = refl
base_carried tid verb.Sleep target s = refl
base_carried tid verb.Send target s = refl
base_carried tid verb.Receive target s = refl
base_carried tid verb.Enter target s = refl
base_carried tid verb.CondEnter target s = refl
base_carried tid verb.Wait target s = refl
base_carried tid verb.Agent target s = refl
base_carried tid verb.OnExit target s = refl
base_carried tid verb.Say target s = refl
base_carried tid verb.Other target s = refl

base_exited : (reg : ℕ) (v : Verb) (target : ℕ) (refused : Bool) (s : Seen) → (after_exit reg v target refused s).base ≡ s.base
base_exited reg v target true s = refl
base_exited reg v target false s = base_carried _ v target _

base_said : (tid : ℕ) (s : Seen) → (after_say tid s).base ≡ s.base
base_said tid s = by (ltb s.time.call (lane_of s tid).clear)
  where
    by : (b : Bool) → (cond b s (after_draw (shape.Said tid s.time) (after_put (record (lane_of s tid) { clear = room s }) s))).base ≡ s.base
    by true = refl
    by false = refl

base_spoken : (tid : ℕ) (v : Verb) (s : Seen) → (after_draw_said tid v s).base ≡ s.base
base_spoken tid verb.Say s = base_said tid s
base_spoken tid verb.Wait s = refl
base_spoken tid verb.Create s = refl
base_spoken tid verb.Destroy s = refl
base_spoken tid verb.Suspend s = refl
base_spoken tid verb.Resume s = refl
base_spoken tid verb.Join s = refl
base_spoken tid verb.Sleep s = refl
base_spoken tid verb.Send s = refl
base_spoken tid verb.Receive s = refl
base_spoken tid verb.Enter s = refl
base_spoken tid verb.CondEnter s = refl
base_spoken tid verb.MonExit s = refl
base_spoken tid verb.MonBreak s = refl
base_spoken tid verb.Agent s = refl
base_spoken tid verb.OnExit s = refl
base_spoken tid verb.Other s = refl

base_done : (e : Entry) (s : Seen) → (after_act e s).base ≡ s.base
unfolding after_act
base_done (entry.Called tid v target suspended) s = base_given tid v _ ∙ base_spoken tid v _ ∙ base_met tid 0 _ _
base_done (entry.Answered tid g) s = base_settled (lane_of (after_meet_thread tid s) tid) g _ ∙ base_met tid 0 _ s
base_done (entry.Exited reg v target refused) s = base_exited reg v target refused s
base_done (entry.Died tid) s = base_met tid 0 _ s
base_done (entry.Event event client seq) s = refl
base_done (entry.Also agent) s = refl
base_done (entry.Tick now client seq) s = refl
base_done (entry.Trapped tid event) s = base_met tid 0 _ _
base_done (entry.Rites agent dead) s = refl
base_done entry.Closing s = refl

base_told : (e : Entry) (s : Seen) → (after_entry e s).base ≡ s.base
unfolding after_entry
base_told e s = by (is_past e s)
  where
    by : (b : Bool) → (cond b (record s { more = true; shapes = [] }) (after_act e (record s { shapes = [] }))).base ≡ s.base
    by true = refl
    by false = base_done e (record s { shapes = [] })

base_noted : (e : Entry) (l : List ℕ) (s : Seen) → (after_note e l s).base ≡ s.base
base_noted (entry.Called tid v target suspended) l s = refl
base_noted (entry.Answered tid g) l s = refl
base_noted (entry.Exited reg v target refused) l s = refl
base_noted (entry.Died tid) l s = refl
base_noted (entry.Event event client seq) l s = refl
base_noted (entry.Also agent) l s = refl
base_noted (entry.Tick now client seq) l s = refl
base_noted (entry.Trapped tid event) l s = refl
base_noted (entry.Rites agent dead) l s = refl
base_noted entry.Closing l s = refl

base_line : (l : List ℕ) (s : Seen) → (after_line l s).base ≡ s.base
unfolding after_line
base_line l s = by (entry_of l)
  where
    by : (o : Option Entry) → (after_entry_by o (after_note_by o l s)).base ≡ s.base
    by None = refl
    by (Some e) = base_told e (after_note e l s) ∙ base_noted e l s

-- ---- once there is more, there is

more_told : (e : Entry) (s : Seen) → (after_entry e s).more ≡ false → s.more ≡ false
unfolding after_entry
more_told e s h = by s.more refl
  where
    by : (b : Bool) → s.more ≡ b → b ≡ false
    by false g = refl
    by true g = (rw g at h)

more_noted : (e : Entry) (l : List ℕ) (s : Seen) → (after_note e l s).more ≡ s.more
more_noted (entry.Called tid v target suspended) l s = refl
more_noted (entry.Answered tid g) l s = refl
more_noted (entry.Exited reg v target refused) l s = refl
more_noted (entry.Died tid) l s = refl
more_noted (entry.Event event client seq) l s = refl
more_noted (entry.Also agent) l s = refl
more_noted (entry.Tick now client seq) l s = refl
more_noted (entry.Trapped tid event) l s = refl
more_noted (entry.Rites agent dead) l s = refl
more_noted entry.Closing l s = refl

more_line : (l : List ℕ) (s : Seen) → (after_line l s).more ≡ false → s.more ≡ false
unfolding after_line
more_line l s h = by (entry_of l) h
  where
    by : (o : Option Entry) → (after_entry_by o (after_note_by o l s)).more ≡ false → s.more ≡ false
    by None g = g
    by (Some e) g = sym (more_noted e l s) ∙ more_told e (after_note e l s) g

more_all : (s : Seen) (ls : List (List ℕ)) → (after_lines s ls).more ≡ false → s.more ≡ false
more_all s [] m = m
more_all s (l ∷ ls) m = more_line l s (more_all (after_line l s) ls m)

-- ---- titles

is_shown_from_0 : (s : Seen) → s.base ≡ 0 → s.more ≡ false → is_shown s ≡ true
unfolding is_shown
is_shown_from_0 s b m = rw (b, m) refl

all_titles : (s : Seen) (ls : List (List ℕ)) → s.base ≡ 0 → (after_lines s ls).more ≡ false → titles s ls ≡ ls
all_titles s [] b m = refl
all_titles s (l ∷ ls) b m =
    let then : (after_line l s).base ≡ 0 = base_line l s ∙ b in
    rw (is_shown_from_0 (after_line l s) then (more_all (after_line l s) ls m)) (ap (λ x. l ∷ x) (all_titles (after_line l s) ls then m))

pub lines_are_titles : (last : ℕ) (ls : List (List ℕ)) → LinesAreTitles last ls
lines_are_titles last ls m = all_titles (opening 0 last) ls refl m

-- ---- texts

plain_byte : (b : ℕ) → list_all is_plain (escaped_byte b) ≡ true
plain_byte b = by (eqb b 38) (eqb b 60) (eqb b 62) (eqb b 34) (eqb b 39) refl refl refl refl
  where
    by : (amp less more quote mark : Bool) → eqb b 60 ≡ less → eqb b 62 ≡ more → eqb b 34 ≡ quote → eqb b 39 ≡ mark
        → list_all is_plain (cond amp (38 ∷ 97 ∷ 109 ∷ 112 ∷ 59 ∷ [])
        (cond less (38 ∷ 108 ∷ 116 ∷ 59 ∷ [])
        (cond more (38 ∷ 103 ∷ 116 ∷ 59 ∷ []) (cond quote (38 ∷ 113 ∷ 117 ∷ 111 ∷ 116 ∷ 59 ∷ []) (cond mark (38 ∷ 35 ∷ 51 ∷ 57 ∷ 59 ∷ []) (b ∷ []))))))
        ≡ true
    by true less more quote mark l m q k = refl
    by false true more quote mark l m q k = refl
    by false false true quote mark l m q k = refl
    by false false false true mark l m q k = refl
    by false false false false true l m q k = refl
    by false false false false false l m q k = rw (l, m, q, k) refl

pub texts_are_plain : (text : List ℕ) → TextsArePlain text
texts_are_plain [] = refl
texts_are_plain (b ∷ bs) = list_all-append is_plain (escaped_byte b) (escaped_text bs) ∙ rw (plain_byte b, texts_are_plain bs) refl
