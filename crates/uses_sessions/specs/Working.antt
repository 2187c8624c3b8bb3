-- What a session comes to (docs/formats/ring.md, "Sessions beside one another").
use Rattle.std.specs.Prelude.{◌≡◌, ℕ, ◌<◌, ◌∷◌}
use Rattle.commit_pipeline.specs.declared.standing.Standing.{Standing}

-- One batch more is the session's own, and the session knows that it is synced.
pub record CommitsOne (s s' : Standing) : Type 0 where
  pub place : ℕ
  pub own : s'.own ≡ place ∷ s.own
  pub synced : place < s'.acked
