-- What the crates above cite of these proofs, and all that they may.
pub use Rattle.line_words.proofs.WordTests.{all_of, is_word}
