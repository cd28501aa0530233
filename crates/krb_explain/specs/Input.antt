-- How a message is given as a text: in hexadecimal, in base64 (RFC 4648, section 4), or as a header line with the name and the scheme
-- before the base64 (RFC 4559, section 4). White space doesn't count.
use Rattle.std.specs.Prelude.{◌≡◌, ◌≢◌, ◌%◌, ℕ, ◌+◌, ◌==◌, nat_lt, Bool, true, false, not, ◌&&◌, ◌||◌, List, [], ◌∷◌, length, drop, codes, Result, Ok, Err, if◌then◌else◌}
use Rattle.std.specs.List.{filter, prefix_len}
use Rattle.std.specs.Char.{is_ascii_alphanumeric, is_ascii_hexdigit, is_ascii_whitespace, to_ascii_lowercase}
use Rattle.hex.specs.Hex.{decode_of as hex_decode_of}
use Rattle.hex.specs.declared.error.FromHexError.{FromHexError}
use Rattle.base64.specs.GeneralPurpose.{decode_of as base64_decode_of}
use Rattle.base64.specs.Engines.{standard}
use Rattle.base64.specs.declared.decode.DecodeError.{DecodeError}
use Rattle.krb_explain.specs.declared.input.InputFault.{InputFault}
use Rattle.krb_explain.specs.declared.input.InputFault.TheVariants.{NoBytes, Symbol, End}

-- ---- where the digits begin

abbrev pub is_no_colon : ℕ → Bool
is_no_colon byte = not (byte == 0x3a)

-- how long a header's name is, with the colon that ends it
abbrev pub name_len : List ℕ → ℕ
name_len text = if nat_lt (prefix_len is_no_colon text) (length text) then prefix_len is_no_colon text + 1 else 0

-- the text begins with the word, in letters of either case
abbrev pub begins_with : List ℕ → List ℕ → Bool
begins_with [] text = true
begins_with (letter ∷ word) [] = false
begins_with (letter ∷ word) (first ∷ text) = to_ascii_lowercase first == letter && begins_with word text

abbrev pub space_len : List ℕ → ℕ
space_len text = prefix_len is_ascii_whitespace text

-- how long the scheme is, with the white space before it
abbrev pub scheme_len : List ℕ → ℕ
scheme_len text = if begins_with (codes "negotiate") (drop (space_len text) text) then space_len text + 9 else 0

abbrev pub start_of : List ℕ → ℕ
start_of text = name_len text + scheme_len (drop (name_len text) text)

-- ---- the digits

-- white space, or one of base64's characters
abbrev pub may_stand : ℕ → Bool
may_stand byte = is_ascii_whitespace byte || (is_ascii_alphanumeric byte || (byte == 0x2b || (byte == 0x2f || byte == 0x3d)))

abbrev pub is_symbol : ℕ → Bool
is_symbol byte = not (is_ascii_whitespace byte)

abbrev pub of_hex : ℕ → Result (List ℕ) FromHexError → Result (List ℕ) InputFault
of_hex end (Ok bytes) = Ok bytes
of_hex end (Err fault) = Err (End end)

abbrev pub of_base64 : ℕ → Result (List ℕ) DecodeError → Result (List ℕ) InputFault
of_base64 end (Ok bytes) = Ok bytes
of_base64 end (Err fault) = Err (End end)

-- the bytes of digits that end at an offset: hexadecimal, if they are all digits of it, else base64
abbrev pub decoded : ℕ → List ℕ → Result (List ℕ) InputFault
decoded end symbols =
    if length symbols == 0 then Err NoBytes
    else if prefix_len is_ascii_hexdigit symbols == length symbols then of_hex end (hex_decode_of symbols)
    else of_base64 end (base64_decode_of standard symbols)

-- the bytes of digits from an offset on, if the first so many bytes may stand there and these are all
abbrev pub read_from : ℕ → ℕ → List ℕ → Result (List ℕ) InputFault
read_from start good rest =
    if good == length rest then decoded (start + length rest) (filter is_symbol rest) else Err (Symbol (start + good))

abbrev pub read_of : List ℕ → Result (List ℕ) InputFault
read_of text = read_from (start_of text) (prefix_len may_stand (drop (start_of text) text)) (drop (start_of text) text)

-- ---- what is decided before memory is asked for: only base64 may still be invalid

-- there are digits, and of hexadecimal an even number
pub record AreWhole (symbols : List ℕ) : Type 0 where
  pub some : length symbols ≢ 0
  pub even : prefix_len is_ascii_hexdigit symbols ≡ length symbols → length symbols % 2 ≡ 0

abbrev pub digits_in : List ℕ → List ℕ
digits_in text = drop (start_of text) text

-- and each byte from where they begin may stand there
pub record HasWholeDigits (text : List ℕ) : Type 0 where
  pub good : prefix_len may_stand (digits_in text) ≡ length (digits_in text)
  pub whole : AreWhole (filter is_symbol (digits_in text))
