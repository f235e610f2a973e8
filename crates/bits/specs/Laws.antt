-- A field and its value, and bytes and their bits, determine each other.
use Rattle.std.specs.Prelude.{◌≡◌, ℕ, ◌^◌, ◌<◌, List, length, slice_index}
use Rattle.bits.specs.Bytes.{filled, bytes_of}
use Rattle.bits.specs.Fields.{field, bits_of, number}

-- The bits of a field write the number that it holds.
abbrev pub BitsGiveValue : Type 0
BitsGiveValue = (w x : ℕ) → x < 2 ^ w → number (field w x) ≡ x

-- Bits, each 0 or 1, are those of a field that holds the number they write.
abbrev pub ValueGivesBits : Type 0
ValueGivesBits = (us : List ℕ) → ((i : ℕ) → slice_index us i < 2) → field (length us) (number us) ≡ us

-- Bytes that have the same bits are the same bytes.
abbrev pub BitsGiveBytes : Type 0
BitsGiveBytes = (bs cs : List ℕ) → ((i : ℕ) → slice_index bs i < 256) → ((i : ℕ) → slice_index cs i < 256) → bits_of bs ≡ bits_of cs → bs ≡ cs

-- The bytes of bits have these bits, and then zeros up to a whole byte.
abbrev pub BytesHoldBits : Type 0
BytesHoldBits = (us : List ℕ) → ((i : ℕ) → slice_index us i < 2) → bits_of (bytes_of us) ≡ filled us
