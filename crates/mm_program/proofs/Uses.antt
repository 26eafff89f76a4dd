-- What a use of the program leads to.
use Rattle.std.proofs.Common.{ℕ, List, [], Option, Result, Ok, Err, Bool, inl, inr, refl}
use Rattle.std.specs.Prelude.{⊤}
use Rattle.std.proofs.Math.Logic.{∥∥₁_elim, ∥∥₁_map}
use Rattle.sqlite_disk.specs.declared.Disk.{Ghosts}
use Rattle.sqlite.specs.Tree.{Trees}
use Rattle.sqlite.specs.Recovery.{Image}
use Rattle.sqlite.specs.Files.{HoldsDatabase}
use Rattle.sqlite.proofs.ListingLemmas.{empty_is_sound}
use Rattle.mm_definitions.specs.Bounds.{current}
use Rattle.mm_definitions.specs.Keys.{Text}
use Rattle.mm_definitions.specs.Opening.{opening}
use Rattle.mm_definitions.specs.Streams.{Written}
use Rattle.mm_arguments.specs.declared.requests.Request.{Request}
use Rattle.mm_arguments.specs.declared.requests.Request.TheVariants as asked
use Rattle.mm_core.specs.Opening.{HasNoTable}
use Rattle.mm_files.specs.Files.{HoldNoByte}
use Rattle.mm_files.specs.Worked.{IsFoundIn}
use Rattle.mm_files.specs.declared.left.Left.{Left}
use Rattle.mm_files.specs.declared.left.Left.TheVariants as left
use Rattle.mm_laws.proofs.Opened.{opened}
use Rattle.mm_work.specs.declared.stop.Stop.{Stop}
use Rattle.mm_program.specs.Files.{IsUntouched, OnFile, StopsNew, StopsOld}
use Rattle.mm_program.specs.Left.{LeavesMade}
use Rattle.mm_program.specs.Life.{IsLife, Leads}
use Rattle.mm_program.specs.Told.{TellsRequest, TellsWork}
use Rattle.mm_program.specs.Uses.{CameSo, HoldMade, LedBy, LedByWork, MayBeLeft}
use Rattle.mm_program.specs.Desks.{IsDeskDone, table_of}
use Rattle.mm_program.specs.Worked.{IsPageServed, RunEnds, ShowingEnds, StatusEnds, closes_done}
use Rattle.mm_program.proofs.Life.{leads_on, leads_unclosed, lives_on}

-- what work leaves of files leads on, whether they were closed or not
module _ {D S T : Type 0} (g : Ghosts D) (image next : Image) (path : Text) (IsCause : Stop → Type 0)
    (tells : Trees → Result T Stop → Type 0) (leaves : Trees → Trees → Result T Stop → Type 0)
    (closes : Result T Stop → Bool) (told : Result T Stop) where
  leads : (rest : Left D S g) → OnFile g image path IsCause tells leaves closes told rest → MayBeLeft g rest next
      → (done : Result T Stop) × CameSo closes told done × Leads (λ found after. leaves found after done) image next
  leads (left.Worked it) on may =
      (told, inl refl, leads_on g image path tells leaves closes told it on may.0 next may.1)
  leads (left.Unclosed it) (why, is, off) may =
      let (done, ended, leads) = leads_unclosed g image path tells leaves closes why it off next may in
      (done, inr (why, is, off.0, ended), leads)
  leads (left.Untouched start) on may = absurd may
  leads left.Unopened on may = absurd may
  leads (left.Refused it) on may = absurd may

-- no file that was not opened may be left
pub nothing_left : {D S : Type 0} (g : Ghosts D) (next : Image) (rest : Left D S g) → IsUntouched rest
    → MayBeLeft g rest next → ⊥
nothing_left g next (left.Untouched start) is may = may
nothing_left g next (left.Worked it) is may = is
nothing_left g next (left.Unclosed it) is may = is
nothing_left g next left.Unopened is may = is
nothing_left g next (left.Refused it) is may = is

-- ---- a making, of files that held no byte

hold_made : (next : Image) (found : Trees) (done : Result (Unit {0}) Stop) → HasNoTable found
    → ∥ ((after : Trees) × LeavesMade found after done × HoldsDatabase next after) ∥₁ → HoldMade next done
unfolding IsLife
hold_made next found (Ok made) none some =
    ∥∥₁_elim some squash₁ (λ it. lives_on [] next next refl it.0 opening it.2 (it.1 none) (opened current))
hold_made next found (Err why) none some = ∥∥₁_map some (λ it. (it.0, it.1 none, it.2))

no_table : (image : Image) (found : Trees) → HoldNoByte image → IsFoundIn image found → HasNoTable found
no_table image found none is = ∣ empty_is_sound found (is.nothing (inl (inl none.1))) ∣₁

module _ {D S : Type 0} (g : Ghosts D) (image next : Image) (path : Text) (told : Result (Unit {0}) Stop)
    (none : HoldNoByte image) where
  made : (rest : Left D S g) → OnFile g image path StopsNew (λ found done. ⊤) LeavesMade closes_done told rest
      → MayBeLeft g rest next
      → (done : Result (Unit {0}) Stop) × CameSo closes_done told done × HoldMade next done
  made (left.Worked it) on may =
      let (found, is, nothing, left) = on.1 may.0 in (
        told,
        inl refl,
        hold_made next found told (no_table image found none is)
            (∥∥₁_map (left next may.1) (λ it. (it.0, it.1, it.2.both))),
      )
  made (left.Unclosed it) (why, is, off) may =
      let (done, ended, all) = off.2 in
      let (found, at, nothing, left) = all may.clean in (
        done,
        inr (why, is, off.0, ended),
        hold_made next found done (no_table image found none at)
            (∥∥₁_elim (left next may.left) squash₁ (λ x. ∥∥₁_map (x.2.holds may.up) (λ held. (x.0, x.1, held)))),
      )
  made (left.Untouched start) on may = absurd may
  made left.Unopened on may = absurd may
  made (left.Refused it) on may = absurd may

-- ---- each request

module _ {D S : Type 0} (g : Ghosts D) (source : Option (List ℕ)) (image next : Image) (old new : Written)
    (result : ℕ) (rest : Left D S g) (may : MayBeLeft g rest next) where
  by_work : {T : Type 0} (path : Text) (status : T → ℕ) (tells : Trees → Written → Result T Stop → Type 0)
      (leaves : Trees → Trees → Written → Result T Stop → Type 0) (closes : Result T Stop → Bool)
      (comes_to : Written → Written → Result T Stop → Type 0)
      → TellsWork g image path old new result rest status comes_to tells leaves closes
      → LedByWork source image next old new result status leaves closes
  by_work path status tells leaves closes comes_to (between, told, came_to, ends, unprinted, on) =
      let (done, came, led) = leads g image next path StopsOld (λ found done. tells found between done)
      (λ found after done. leaves found after between done) closes told rest on may in
      (between, told, done, ends, came, led)

  pub led_by : (request : Request) → TellsRequest g image source request old new result rest
      → LedBy source image next old new result request
  led_by (asked.Init file) (told, stops, is, on, bare) = λ none.
      let (done, came, holds) = made g image next file.now told none rest on may in (told, done, is, came, holds)
  led_by (asked.Run file at) (declined, inl (refused, is, nothing)) = absurd (nothing_left g next rest nothing may)
  led_by (asked.Run file at) (declined, inr (moment, given, work)) =
      (moment, given, by_work file.now _ _ _ _ RunEnds work)
  led_by (asked.Kit file edition folder at) (inl (refused, is, nothing)) = absurd (nothing_left g next rest nothing may)
  led_by (asked.Kit file edition folder at) (inr (inl (name, refused, is, nothing))) =
      absurd (nothing_left g next rest nothing may)
  led_by (asked.Kit file edition folder at) (inr (inr (name, told, is, on))) =
      let (done, came, led) = leads g image next file.now StopsOld _ _ _ told rest on may in
      (told, done, is, came, led)
  led_by (asked.Check file) (told, stops, is, on) =
      (leads g image next file.now StopsOld _ _ _ told rest on may).2
  led_by (asked.List file) (declined, work) = (by_work file.now _ _ _ _ (StatusEnds (λ done. 0)) work).5
  led_by (asked.Show file table id) (declined, inl (refused, is, nothing)) =
      absurd (nothing_left g next rest nothing may)
  led_by (asked.Show file table id) (declined, inr (name, work)) = (by_work file.now _ _ _ _ ShowingEnds work).5
  led_by (asked.Migrate file) (told, stops, is, on) =
      let (done, came, led) = leads g image next file.now StopsOld _ _ _ told rest on may in
      (told, done, is, came, led)
  led_by (asked.Serve file port count) (served, work) = (by_work file.now _ _ _ _ (IsPageServed port count) work).5
  led_by (asked.Desk file port count page) (told, inl (is, nothing)) = absurd (nothing_left g next rest nothing may)
  led_by (asked.Desk file port count page) (told, inr (inl (why, stops, is, nothing))) =
      absurd (nothing_left g next rest nothing may)
  led_by (asked.Desk file port count page) (told, inr (inr (key, is, work))) = by_work file.now _ _ _ _
      (IsDeskDone port count key (table_of page)) work
  led_by (asked.Explain answer) (is, nothing) = nothing_left g next rest nothing may
