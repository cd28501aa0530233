use Rattle.std.proofs.Common.{◌-◌, ◌∙◌, List, ℕ, length, take, drop, subst, ap, refl, arith}
use Rattle.krb_cts.specs.Undo.{undo}
use Rattle.krb_enc.specs.Key.{profile_of}
use Rattle.krb_enc.specs.Sealed.{encryption_key}
use Rattle.krb_enc.specs.Opens.{Opens}
use Rattle.krb_enc.proofs.InPlace.{opened}
use Rattle.krb_enc.proofs.usage_key.UsageKey.open_in_place.Goals as goal

pub returns-clause-opened : goal.returns-clause-opened
returns-clause-opened c =
    let key = c.args.self.now.key in
    let p = profile_of key in
    let usage : ℕ = c.args.self.now.usage in
    let text = c.args.text.now in
    let size = c.tag_len.result in
    let body : List ℕ = take (length text - size) text in
    opened p key.bytes usage text body c.decrypt.new.text size c.tag_len.ensures.value (omega (arith, c.in_ok-body.ensures.long, c.tag_len.ensures.value)) refl
    (c.decrypt.ensures.text ∙ ap (λ (k : List ℕ). undo k body) c.schedule.ensures)
    (subst (λ (t : List ℕ). Opens p key.bytes usage text (drop 16 (undo (encryption_key p key.bytes usage) t))) c.in_ok-body.ensures.is c.in_ok-body.ensures.opens)
