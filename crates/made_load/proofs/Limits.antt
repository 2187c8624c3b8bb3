-- The numbers of a load, as the checker computes them.
use Rattle.std.proofs.Common.{◌≡◌, refl}
use Rattle.made_load.specs.declared.load.TheConstants.{LOAD_SEED_STEP, LOAD_BATCH_STEP, LOAD_KEYS, LOAD_ROUND, LOAD_SESSIONS}
use Rattle.made_load.specs.Load.{load_number, word_of_number, last_digits}
use Rattle.std.specs.Prelude.{codes}

seed_step : LOAD_SEED_STEP ≡ 0x5851F42D4C957F2D
seed_step = refl

batch_step : LOAD_BATCH_STEP ≡ 0x14057B7EF767814F
batch_step = refl

keys : LOAD_KEYS ≡ 1000
keys = refl

round : LOAD_ROUND ≡ 1000
round = refl

sessions : LOAD_SESSIONS ≡ 4
sessions = refl

-- batch 0 of seed 7 sets these digits
first_word : word_of_number (load_number 7 0) ≡ codes "6a3dad3d18167a3b"
unfolding load_number last_digits
first_word = refl
