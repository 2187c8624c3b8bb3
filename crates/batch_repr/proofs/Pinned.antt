-- The limits of the format, as numbers: no contract says them but by the constants of the code.
use Rattle.std.proofs.Common.{◌≡◌, ◌-◌, ◌^◌, refl}
use Rattle.batch_repr.specs.declared.limits.TheConstants.{KEY_MAX, VALUE_MAX, BATCH_MAX, NUMBER_FIRST, NUMBER_MAX, BATCHES_MAX, SESSIONS_MAX, HEADER}

key_max : KEY_MAX ≡ 65535
key_max = refl

value_max : VALUE_MAX ≡ 1048576
value_max = refl

batch_max : BATCH_MAX ≡ 4194304
batch_max = refl

number_max : NUMBER_MAX ≡ 2 ^ 56 - 1
number_max = refl

header : HEADER ≡ 12
header = refl

number_first : NUMBER_FIRST ≡ 10
number_first = refl

batches_max : BATCHES_MAX ≡ 1048576
batches_max = refl

sessions_max : SESSIONS_MAX ≡ 64
sessions_max = refl
