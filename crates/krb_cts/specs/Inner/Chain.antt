-- Whole blocks of a text that was chained.
use Rattle.std.specs.Prelude.{ℕ, zero, suc, ◌+◌, ◌-◌, ◌*◌, List, [], ◌++◌, take, drop}
use Rattle.krb_aes.specs.Cipher.{inv_cipher}
use Rattle.krb_cts.specs.Stealing.{xor, zeros}

-- block i of the text, where block 0 is the initial vector
unfoldable pub whole_block : List ℕ → ℕ → List ℕ
whole_block text zero = zeros
whole_block text (suc i) = take 16 (drop (16 * i) text)

-- what block i was before it was chained
abbrev pub unchained_block : List ℕ → List ℕ → ℕ → List ℕ
unchained_block key text i = xor (inv_cipher key (whole_block text i)) (whole_block text (i - 1))

-- the text with the chain of its block at a place undone, after the block `previous`
abbrev pub undone_at : List ℕ → List ℕ → ℕ → List ℕ → List ℕ
undone_at key text at previous = take at text ++ xor (inv_cipher key (take 16 (drop at text))) previous ++ drop (at + 16) text

-- what the block after the one at a place was before it was chained
abbrev pub unchained_after : List ℕ → List ℕ → ℕ → List ℕ
unchained_after key text at = xor (inv_cipher key (take 16 (drop (at + 16) text))) (take 16 (drop at text))

-- what block i + 1 was before it was chained
unfoldable pub later_block : List ℕ → List ℕ → ℕ → List ℕ
later_block key text zero = []
later_block key text (suc i) = unchained_after key text (16 * i)

-- the plain text with that block put at the place
abbrev pub unchained_to : List ℕ → List ℕ → List ℕ → ℕ → List ℕ
unchained_to key text plain at = take at plain ++ unchained_after key text at ++ drop (at + 16) plain
