use Rattle.std.proofs.Common.{◌≡◌, ◌∷◌, map, take}
use Rattle.krb_readable.specs.Readable.{cache_head, cache_row}
use Rattle.krb_readable.proofs.cache.cache_rows.Given as goal

abbrev pub invariant-loop-credential : goal.invariant-loop-credential
invariant-loop-credential l = l.rows.items ≡ cache_head ∷ map (cache_row l.now) (take l.credential-index l.credentials)
