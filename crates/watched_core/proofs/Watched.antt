-- With the checks of a right record a core does what it does.
use Rattle.std.proofs.Common.{◌≡◌, ℕ, false, List, [], ◌∷◌}
use Rattle.std.specs.List.{AllByRecursion}
use Rattle.core_tree.specs.CoreTree.{Core}
use Rattle.core_checks.specs.Placements.{Placement, is_tracked}
use Rattle.footprint_laws.specs.FootprintLaws.{larger_law, footprint_law}
use Rattle.frame_laws.specs.FrameLaws.{call_frame_law}
use Rattle.core_meaning.specs.CoreRunning as running
use Rattle.watched_core.specs.Watching as watching
use Rattle.core_checks.specs.Subjects.{SubjectAt, code_subjects}
use Rattle.watched_core.specs.WatchLaws.{watch_law, IsBareSite, bare_law}
use Rattle.watched_core.proofs.Deciding.{SiteOk}
use Rattle.watched_core.proofs.Straight.{Each}
use Rattle.watched_core.proofs.Placed.{fine_of}
use Rattle.watched_core.proofs.Whole.{run_follows, shows}
use Rattle.watched_core.proofs.Premises.{function_ok, start_ok}

pub watched_does : larger_law → footprint_law → call_frame_law → watch_law
watched_does larger footprints frames c es p stepped right placement input n words few =
    shows (running.run c n (running.started c input n)) (watching.run c p n (watching.started c p input n))
    (run_follows c p larger footprints frames (function_ok c es p stepped right.entries placement) (start_ok c es p stepped right.entries placement) input n
    (fine_of c es p placement.kept (running.visits c input n) (right.visits input n words few)))

bare_sites : (c : Core) (p : Placement) (g : ℕ) → is_tracked p g ≡ false → (xs : List SubjectAt) → Each (λ x. SiteOk c p g x.site x.subject) xs → AllByRecursion (IsBareSite p) xs
bare_sites c p g t [] k = tt
bare_sites c p g t (x ∷ xs) k = (k.0.bare t, bare_sites c p g t xs k.1)

pub is_bare : bare_law
is_bare c es p stepped entries placement g f there t =
    let ok = function_ok c es p stepped entries placement g f there in
    record { sites = bare_sites c p g t (code_subjects c f f.body) ok.sites; callees = λ h e. ok.bare h e t }
