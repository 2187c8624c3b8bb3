-- What a stream tells: bytes in front of or after what is told (docs/formats/disk.md, "Sources and sinks").
-- A stream that tells nothing goes on telling nothing.
use Rattle.std.specs.Prelude.{◌≡◌, ◌<◌, ℕ, List, [], ◌++◌, length, take, Option, Some, None, IfSome}

-- what is told with these bytes in front
abbrev pub told_front : List ℕ → Option (List ℕ) → Option (List ℕ)
told_front front None = None
told_front front (Some bytes) = Some (front ++ bytes)

-- what is told with these bytes after
abbrev pub told_back : Option (List ℕ) → List ℕ → Option (List ℕ)
told_back None back = None
told_back (Some bytes) back = Some (bytes ++ back)

-- The source told these bytes in front of what it tells now.
abbrev pub HandsOut : Option (List ℕ) → Option (List ℕ) → List ℕ → ℕ → Type 0
HandsOut old new buf count = old ≡ told_front (take count buf) new

-- None into a buffer with room: nothing is left.
abbrev pub EndsAtNone : Option (List ℕ) → List ℕ → ℕ → Type 0
EndsAtNone left buf count = count ≡ 0 → 0 < length buf → IfSome left (λ bytes. bytes ≡ [])

-- The sink tells so many of the bytes after what it told.
abbrev pub Took : Option (List ℕ) → Option (List ℕ) → List ℕ → ℕ → Type 0
Took old new bytes count = new ≡ told_back old (take count bytes)
