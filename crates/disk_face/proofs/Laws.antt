-- What the crates above cite of these proofs, and all that they may.
pub use Rattle.disk_face.proofs.Asked.{bytes_asked-append, length_listed-append, listings-append, makes_further, makes_none}
pub use Rattle.disk_face.proofs.Fieldless.{none, none_made}
pub use Rattle.disk_face.proofs.Images.{image_of_created, image_of_none, read_created, read_image, sync_image}
pub use Rattle.disk_face.proofs.LastStart.{Tracks, creations_further, creations_one, fails_last, last_fails, failed_over, failed_within, same_creations, tracks_failure, tracks_poll, tracks_start}
pub use Rattle.disk_face.proofs.Listings.{AllPairs-head, AllPairs-tail, before_or_after, before_trans, not_before_itself}
pub use Rattle.disk_face.proofs.Moments.{goes_on_from, goes_on_further, goes_went, moments_from, moments_joined, moments_more, moments_stay, rose_earlier, rose_later, same_files, same_from, same_further, went_further}
pub use Rattle.disk_face.proofs.Places.{same_id, same_number, same_place, same_side}
pub use Rattle.disk_face.proofs.Polled.{passed_on}
