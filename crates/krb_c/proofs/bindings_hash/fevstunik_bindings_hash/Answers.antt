use Rattle.std.proofs.Common.{◌≡◌, ◌∙◌, ◌<◌, ◌^◌, ◌++◌, ℕ, List, ap, length, rules, subst}
use Rattle.md5.specs.Md5.{md5}
use Rattle.krb_c.specs.Answer.{Hands}
use Rattle.krb_c.specs.BindingsHash.{hashed, no_address, number}
use Rattle.krb_c.proofs.bindings_hash.fevstunik_bindings_hash.Goals as goal

pub returns-in-Ok : goal.returns-in-Ok
returns-in-Ok c =
    let small : length c.args.bindings.now < 2 ^ 32 = search rules in
    let same : c.in-Ok.size ≡ length c.args.bindings.now = search rules in
    hashed small
    (subst (λ (hash : List ℕ). Hands hash c.args.buffer.now c.hand_over.new.buffer c.hand_over.result)
    (c.hash_of.ensures ∙ ap (λ (n : ℕ). md5 (no_address ++ (no_address ++ (number n ++ c.args.bindings.now)))) same)
    c.hand_over.ensures)
