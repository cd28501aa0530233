-- Cipher block chaining with ciphertext stealing, with an initial vector of zeros (RFC 3962,
-- section 5; RFC 8009, section 5). A text is a list of at least 16 bytes. Blocks have 16 bytes and
-- are numbered from 1.
use Rattle.std.specs.Prelude.{All, ℕ, zero, suc, ◌+◌, ◌-◌, ◌*◌, ◌/◌, ◌==◌, ◌<◌, ◌≤◌, List, [], ◌++◌, length, take, drop, replicate, bit_xor, if◌then◌else◌}
use Rattle.krb_aes.specs.Cipher.{cipher}
use lib.Lanes.{zip2}

-- a text that can be encrypted
pub record IsText (text : List ℕ) : Type 0 where
  pub size : 16 ≤ length text
  pub bytes : All (λ byte. byte < 256) text

-- XOR byte by byte, to the end of the shorter list
abbrev pub xor : List ℕ → List ℕ → List ℕ
xor one other = zip2 bit_xor one other

-- the initial vector
abbrev pub zeros : List ℕ
zeros = replicate 16 0

-- m: the number of blocks of a text; the last may not be full
abbrev pub block_count : List ℕ → ℕ
block_count text = (length text + 15) / 16

-- P(i): block i of a text, padded with zeros if the text ends within it
abbrev pub plain_block : List ℕ → ℕ → List ℕ
plain_block text i = take 16 (drop (16 * (i - 1)) text ++ zeros)

-- C(i): the cipher of P(i) XOR C(i - 1), where C(0) is the initial vector
unfoldable pub cipher_block : List ℕ → List ℕ → ℕ → List ℕ
cipher_block key text zero = zeros
cipher_block key text (suc i) = cipher key (xor (plain_block text (suc i)) (cipher_block key text i))

-- blocks 1 to n, one after another
unfoldable pub joined : (ℕ → List ℕ) → ℕ → List ℕ
joined block zero = []
joined block (suc n) = joined block n ++ block (suc n)

-- the number of bytes that the text has in its last block
abbrev pub last_length : List ℕ → ℕ
last_length text = length text - 16 * (block_count text - 1)

-- a text of one block is chained; in a longer one, the last two blocks are swapped, and C(m - 1) is
-- cut to the length of the text's last block
unfoldable pub cts : List ℕ → List ℕ → List ℕ
cts key text =
    let m = block_count text in
    if length text == 16
    then cipher_block key text 1
    else joined (cipher_block key text) (m - 2) ++ cipher_block key text m ++ take (last_length text) (cipher_block key text (m - 1))
