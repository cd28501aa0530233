use Rattle.std.proofs.Common.{◌≡◌, ◌∙◌, List, ℕ, take, refl, ap, inl, subst, rules}
use Rattle.krb_enc.specs.Key.{IsUsable, KeyValue, UsageKeyValue, profile_of}
use Rattle.krb_enc.specs.Opens.{Opens}
use Rattle.krb_c.specs.Choice.{key_value}
use Rattle.krb_c.proofs.Buffers.{handed, not_handed}
use Rattle.krb_c.proofs.text.fevstunik_open.Goals as goal

abbrev OpensUnder : List ℕ → List ℕ → UsageKeyValue → Type 0
OpensUnder text plain key = Opens (profile_of key.key) key.key.bytes key.usage text plain

pub returns-in-Ok-open_to-clause-delivered : goal.returns-in-Ok-open_to-clause-delivered
returns-in-Ok-open_to-clause-delivered c =
    let key = key_value c.args.key_type c.args.key.now in
    let made : c.in-Ok.key ≡ key = search rules in
    let under : c.for_usage.result ≡ record { key = key; usage = c.args.usage } = c.for_usage.ensures ∙ ap (λ (k : KeyValue). record { key = k; usage = c.args.usage }) made in
    let plain = take c.in-Ok-open_to.size c.open_to.new.plain in
    let opens = c.in-Ok-open_to.ensures.opened in
    inl (
      plain,
      (
        (subst IsUsable made c.in-Ok.ensures.usable, subst (OpensUnder c.args.text.now plain) under opens),
        handed plain c.args.buffer.now c.open_to.new.plain c.in-Ok-open_to.size c.sized.result (c.in-Ok-open_to.ensures.found plain opens) c.sized.ensures,
      ),
    )

pub returns-in-Err-ShortSlice-clause-delivered : goal.returns-in-Err-ShortSlice-clause-delivered
returns-in-Err-ShortSlice-clause-delivered c =
    let key = key_value c.args.key_type c.args.key.now in
    let made : c.in-Ok.key ≡ key = search rules in
    let under : c.for_usage.result ≡ record { key = key; usage = c.args.usage } = c.for_usage.ensures ∙ ap (λ (k : KeyValue). record { key = k; usage = c.args.usage }) made in
    let needed = c.in-Err-ShortSlice.needed in
    let found = rw c.in-Err-ShortSlice.field-0-is at c.in-Err-ShortSlice.ensures.found in
    let there = (rw c.in-Err-ShortSlice.field-0-is at c.in-Err-ShortSlice.ensures.room) needed refl in
    let plain = there.0 in
    inl (
      plain,
      (
        (subst IsUsable made c.in-Ok.ensures.usable, subst (OpensUnder c.args.text.now plain) under there.2),
        not_handed plain c.args.buffer.now c.open_to.new.plain needed c.sized-in-Err-ShortSlice.result (found plain there.2) c.sized-in-Err-ShortSlice.ensures,
      ),
    )
