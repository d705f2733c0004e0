-- How bytes are read as UTF-8: by the decoder of the Encoding Standard (section 8.1.1), byte by byte. A byte of no well formed
-- character counts as U+FFFD (in that decoder one U+FFFD may stand for several).
use Rattle.std.specs.Prelude.{ℕ, ◌+◌, ◌-◌, ◌*◌, ◌==◌, nat_lt, Bool, zero, suc, List, [], ◌∷◌, ◌++◌, Option, Some, None, if◌then◌else◌}
use Rattle.std.specs.Option.{unwrap_or}
use Rattle.std.specs.Int.{is_in_range}
use Rattle.std.specs.Str.{continuation_len, lead_bits}
use Rattle.std.specs.Str.Lossy.{second_byte_min, second_byte_max}
use Rattle.place_core.specs.page.References.{replacement}

-- a character of which some bytes have come: how many it still needs, between which bounds the next one lies, the bits of the character so far,
-- and how many bytes it has had, the first one too
pub record Partial : Type 0 where
  pub needed : ℕ
  pub lower : ℕ
  pub upper : ℕ
  pub bits : ℕ
  pub seen : ℕ

abbrev pub partial_begun : ℕ → Partial
partial_begun b = record { needed = continuation_len b; lower = second_byte_min b; upper = second_byte_max b; bits = lead_bits b; seen = 1 }

abbrev pub more_bits : Partial → ℕ → ℕ
more_bits p b = p.bits * 64 + (b - 128)

abbrev pub gone_on : Partial → ℕ → Partial
gone_on p b = record { needed = p.needed - 1; lower = 128; upper = 191; bits = more_bits p b; seen = p.seen + 1 }

-- whether a character of several bytes begins with this byte, and whether the next byte goes on with it
abbrev pub is_lead : ℕ → Bool
is_lead b = is_in_range 194 244 b

abbrev pub utf8_goes_on : Partial → ℕ → Bool
utf8_goes_on p b = is_in_range p.lower p.upper b

-- where the decoder stands: before a character, or in one
pub data Decoder : Type 0 where
  Before : Decoder
  Within : Partial → Decoder

-- a number of U+FFFD before these characters
abbrev pub replacements : ℕ → List ℕ → List ℕ
replacements zero cs = cs
replacements (suc n) cs = replacement ∷ replacements n cs

-- where a byte leads to, before a character and in one
abbrev pub next_before : ℕ → Decoder
next_before b = if is_lead b then Within (partial_begun b) else Before

abbrev pub next_within : Partial → ℕ → Decoder
next_within p b = if utf8_goes_on p b then (if p.needed == 1 then Before else Within (gone_on p b)) else next_before b

abbrev pub next_decoder : Decoder → ℕ → Decoder
next_decoder Before b = next_before b
next_decoder (Within p) b = next_within p b

-- the characters that it completes
abbrev pub decoded_before : ℕ → List ℕ
decoded_before b = if nat_lt b 128 then b ∷ [] else (if is_lead b then [] else replacement ∷ [])

abbrev pub decoded_within : Partial → ℕ → List ℕ
decoded_within p b = if utf8_goes_on p b then (if p.needed == 1 then more_bits p b ∷ [] else []) else replacements p.seen (decoded_before b)

abbrev pub decoded_byte : Decoder → ℕ → List ℕ
decoded_byte Before b = decoded_before b
decoded_byte (Within p) b = decoded_within p b

-- the characters of bytes, from where the decoder stands
abbrev pub decoded : Decoder → List ℕ → List ℕ
decoded Before [] = []
decoded (Within p) [] = replacements p.seen []
decoded d (b ∷ bs) = decoded_byte d b ++ decoded (next_decoder d b) bs

-- The first character of bytes, and how many bytes it takes, by looking ahead.

abbrev pub utf8_followed : Partial → List ℕ → Option (ℕ × ℕ)
utf8_followed p [] = None
utf8_followed p (b ∷ bs) = if utf8_goes_on p b then (if p.needed == 1 then Some (more_bits p b, p.seen + 1) else utf8_followed (gone_on p b) bs) else None

abbrev pub first_character : ℕ → List ℕ → ℕ × ℕ
first_character b bs = if nat_lt b 128 then (b, 1) else (if is_lead b then unwrap_or (utf8_followed (partial_begun b) bs) (replacement, 1) else (replacement, 1))
