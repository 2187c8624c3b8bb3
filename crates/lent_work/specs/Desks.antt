-- What lies on a desk, and what its two ends know (docs/formats/program.md, "The run of a script").
use Rattle.std.specs.Prelude.{◌≡◌, List, [], ◌∷◌, Some, None}
use Rattle.lent_work.specs.declared.rule.Parcel.{Parcel}
use Rattle.lent_work.specs.declared.rule.Parcel.TheVariants.{Asked, Done}
use Rattle.lent_work.specs.declared.rule.Side.{Side}
use Rattle.lent_work.specs.declared.rule.Side.TheVariants.{Whole, Lends, Works}

module _ {T : Type 0} (is_done : T → T → Type 0) where
  -- Work is lent, being done, or done and not yet taken back, and there is no other meanwhile.
  pub data LiesOn : List (Parcel T) → List (Side T) → Type 0 where
    made : LiesOn [] (Whole ∷ [])
    idle : LiesOn [] (Lends None ∷ Works None ∷ [])
    asked : (t : T) → LiesOn (Asked t ∷ []) (Lends (Some t) ∷ Works None ∷ [])
    begun : (t : T) → LiesOn [] (Lends (Some t) ∷ Works (Some t) ∷ [])
    done : (t t' : T) → is_done t t' → LiesOn (Done t' ∷ []) (Lends (Some t) ∷ Works None ∷ [])

  -- The work of a parcel is being done, or was done.
  abbrev pub Takes : Parcel T → Side T → Type 0
  Takes (Asked t) w = w ≡ Works (Some t)
  Takes (Done t') w = (t : T) × (w ≡ Works (Some t)) × is_done t t'

  -- Nothing is lent any more: the work of a parcel is that which was lent, as it was or done.
  abbrev pub TakesBack : Side T → Parcel T → Side T → Type 0
  TakesBack v (Asked t) w = (v ≡ Lends (Some t)) × (w ≡ Lends None)
  TakesBack v (Done t') w = (w ≡ Lends None) × ((t : T) → v ≡ Lends (Some t) → is_done t t')
