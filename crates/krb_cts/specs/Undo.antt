-- Decryption of ciphertext stealing, computed from the end (RFC 3962, section 5): the last two
-- blocks first, and then block by block. Texts, blocks and m are those of Stealing.
use Rattle.std.specs.Prelude.{ℕ, ◌-◌, ◌*◌, ◌==◌, List, ◌++◌, length, take, drop, if◌then◌else◌}
use Rattle.krb_aes.specs.Cipher.{inv_cipher}
use Rattle.krb_cts.specs.Stealing.{xor, zeros, block_count, joined, last_length}

-- D: C(m), the last block but one, decrypted by the block cipher alone
abbrev pub last_undone : List ℕ → List ℕ → List ℕ
last_undone key text = inv_cipher key (take 16 (drop (16 * (block_count text - 2)) text))

-- C(m - 1): the last bytes of the text, filled up to a block from D
abbrev pub stolen_block : List ℕ → List ℕ → List ℕ
stolen_block key text = drop (16 * (block_count text - 1)) text ++ drop (last_length text) (last_undone key text)

-- C(i), for i below m
abbrev pub chained_block : List ℕ → List ℕ → ℕ → List ℕ
chained_block key text i =
    if i == 0 then zeros
    else if i == block_count text - 1 then stolen_block key text
    else take 16 (drop (16 * (i - 1)) text)

-- P(i), for i from 1 to below m
abbrev pub undone_block : List ℕ → List ℕ → ℕ → List ℕ
undone_block key text i = xor (inv_cipher key (chained_block key text i)) (chained_block key text (i - 1))

unfoldable pub undo : List ℕ → List ℕ → List ℕ
undo key text =
    if length text == 16
    then inv_cipher key text
    else joined (undone_block key text) (block_count text - 1)
    ++ take (last_length text) (xor (last_undone key text) (stolen_block key text))
