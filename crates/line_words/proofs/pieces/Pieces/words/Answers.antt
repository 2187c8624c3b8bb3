use Rattle.std.proofs.Common.{refl}
use Rattle.line_words.specs.Cutting.{pieces}
use Rattle.line_words.specs.Words.{words_of}
use Rattle.line_words.proofs.pieces.Pieces.words.Goals as goal

pub returns : goal.returns
unfolding pieces words_of
returns c = refl
