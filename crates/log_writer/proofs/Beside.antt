-- Other files stay as they are, and a writer fits a disk that changed elsewhere alone.
use Rattle.std.proofs.Common.{◌≡◌, ◌≢◌, inl, inr, Bool, List, Option, Some, None, IsTrue, ap, sym, subst, ◌∙◌, refl}
use Rattle.disk_face.specs.declared.OpId.{OpId}
use Rattle.disk_face.specs.View.{Place, Flight, File, Files, DiskView, files, IsFree, AtEachMoment}
use Rattle.disk_face.specs.Calls.{GoesOn, SameDisk, Ends, ChangesFile}
use Rattle.disk_face.proofs.Laws.{same_id, moments_from, moments_more, moments_stay, same_files}
use Rattle.batch_repr.specs.declared.batch.Batch.{Batch}
use Rattle.log_writer.specs.declared.phase.Phase.{Phase}
use Rattle.log_writer.specs.declared.phase.Phase.TheVariants.{New, InFlight, Idle, Broken}
use Rattle.log_writer.specs.Writer.{Writer}
use Rattle.log_writer.specs.Fits.{place_of_writer, act_of, HasFlight, HasFile, Fits, SameFile}

-- At each other place the file is as it was.
abbrev pub OthersStay : Place → Files → Files → Type 0
OthersStay place old now = (p : Place) → p ≢ place → now p ≡ old p

pub same_disk : (tells : Bool) (place : Place) (old new : DiskView) → SameDisk old new → SameFile tells place old new
same_disk tells place old new same = record {
  still = λ q f at is. ap (λ (g : OpId → Option Flight). g q) same.in_flight ∙ is;
  no_more = λ q f at is. ap (λ (g : OpId → Option Flight). g q) (sym same.in_flight) ∙ is;
  file = λ told. ap (λ (g : Files). g place) (same_files old new same);
}

pub ended_elsewhere : (tells : Bool) (place : Place) (flight : Flight) (id : OpId) (Change : Option File → Option File → Type 0)
    (old new : DiskView) → old.in_flight id ≡ Some flight → Ends id old new
    → (IsTrue tells → ChangesFile flight.place Change old new) → place ≢ flight.place → SameFile tells place old new
ended_elsewhere tells place flight id Change old new flies ends change elsewhere =
    record { still = still; no_more = no_more; file = λ told. (change told).others place elsewhere }
  where
    still : (q : OpId) (f : Flight) → f.place ≡ place → old.in_flight q ≡ Some f → new.in_flight q ≡ Some f
    still q f at is = elim (same_id q id) [
      | inl e ↦ let one : Some f ≡ Some flight = sym is ∙ ap old.in_flight e
          ∙ flies in let same : f ≡ flight = cc in absurd (elsewhere (sym at ∙ ap (λ (g : Flight). g.place) same))
      | inr ne ↦ ends.others q ne ∙ is
    ]

    no_more : (q : OpId) (f : Flight) → f.place ≡ place → new.in_flight q ≡ Some f → old.in_flight q ≡ Some f
    no_more q f at is = elim (same_id q id) [
      | inl e ↦ let clash : Some f ≡ None = sym is ∙ ap new.in_flight e ∙ ends.gone in cc
      | inr ne ↦ sym (ends.others q ne) ∙ is
    ]

-- What holds before and after a moment passes.
pub two_moments : (place : Place) (Change : Option File → Option File → Type 0) (old new : DiskView) (P : Files → Type 0) → GoesOn old new
    → ChangesFile place Change old new
    → P (files old) → P (files new) → AtEachMoment old.clock new P
two_moments place Change old new P goes change before after = moments_more old.clock old new P (moments_from old P before) goes change.clock after

-- What holds where no moment passes.
pub one_moment : (old new : DiskView) (P : Files → Type 0) → GoesOn old new → SameDisk old new → P (files old) → AtEachMoment old.clock new P
one_moment old new P goes same before = moments_stay old.clock old new P (moments_from old P before) goes same.clock

free_beside : (tells : Bool) (place : Place) (old new : DiskView) → SameFile tells place old new → IsFree old place → IsFree new place
free_beside tells place old new same free id f is at = free id f (same.no_more id f at is) at

flight_beside : (tells : Bool) (phase : Phase) (place : Place) (old new : DiskView) → SameFile tells place old new
    → HasFlight phase place old → HasFlight phase place new
flight_beside tells New place old new same free = free_beside tells place old new same free
flight_beside tells (InFlight operation id) place old new same flies = record {
  here = same.still id (record { place = place; act = act_of operation }) refl flies.here;
  alone = λ q ne f is at. flies.alone q ne f (same.no_more q f at is) at;
}
flight_beside tells Idle place old new same free = free_beside tells place old new same free
flight_beside tells Broken place old new same free = free_beside tells place old new same free

pub fits_beside : (tells : Bool) (records : List Batch) (w : Writer) (old new : DiskView) → Fits tells records w old
    → SameFile tells (place_of_writer w) old new → Fits tells records w new
fits_beside tells records w old new fits same = record {
  offsets = fits.offsets;
  ordered = fits.ordered;
  numbers = fits.numbers;
  flight = flight_beside tells w.phase (place_of_writer w) old new same fits.flight;
  file = λ told. subst (HasFile w.phase fits.offsets records w) (sym (same.file told)) (fits.file told);
}
