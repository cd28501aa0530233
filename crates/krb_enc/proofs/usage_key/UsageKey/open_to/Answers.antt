use Rattle.std.proofs.Common.{◌≡◌, ◌-◌, ◌++◌, ◌∙◌, List, ℕ, length, drop, sym, refl, ap, arith}
use Rattle.krb_cts.specs.Undo.{undo}
use Rattle.krb_enc.specs.declared.fault.OpenToFault.{OpenToFault}
use Rattle.krb_enc.specs.declared.fault.OpenToFault.TheVariants.{ShortSlice}
use Rattle.krb_enc.specs.Key.{profile_of}
use Rattle.krb_enc.specs.Sealed.{encryption_key}
use Rattle.krb_enc.proofs.KeyLaws.{known_profile}
use Rattle.krb_enc.proofs.Opening.{length-plain, plain_is}
use Rattle.krb_enc.proofs.Written.{written, not_written}
use Rattle.krb_enc.proofs.usage_key.UsageKey.open_to.Goals as goal

pub returns-in_err-body-clause-found : goal.returns-in_err-body-clause-found
returns-in_err-body-clause-found c opened o = absurd (c.in_err-body.ensures.refused opened o)

pub returns-then-plain-needed-clause-found : goal.returns-then-plain-needed-clause-found
returns-then-plain-needed-clause-found c opened o =
    let key = c.args.self.now.key in
    let ke = encryption_key (profile_of key) key.bytes c.args.self.now.usage in
    let body = c.in_ok-body.body.now in
    let is : drop 16 (undo ke body) ≡ opened =
    plain_is (profile_of key) key.bytes c.args.self.now.usage c.args.text.now ke body (drop 16 (undo ke body)) opened (known_profile key) c.in_ok-body.ensures.opens refl refl o in
    not_written OpenToFault (λ needed. ShortSlice needed) opened c.args.plain.now (length body - 16) (sym (length-plain ke body c.in_ok-body.ensures.confounder) ∙ ap length is) c.if-plain-needed.true

pub returns-then-plain-needed-clause-room : goal.returns-then-plain-needed-clause-room
returns-then-plain-needed-clause-room c needed is =
    let key = c.args.self.now.key in
    let ke = encryption_key (profile_of key) key.bytes c.args.self.now.usage in
    let body = c.in_ok-body.body.now in
    let size : length (drop 16 (undo ke body)) ≡ length body - 16 = length-plain ke body c.in_ok-body.ensures.confounder in
    let needed_is : needed ≡ length (drop 16 (undo ke body)) = cc in (
      drop 16 (undo ke body),
      needed_is,
      c.in_ok-body.ensures.opens,
    )

pub returns-clause-found : goal.returns-clause-found
returns-clause-found c opened o =
    let key = c.args.self.now.key in
    let old = c.args.plain.now in
    let body = c.in_ok-body.body.now in
    let needed : ℕ = length body - 16 in
    let plain = c.decrypt_after_first.new.plain in
    let is : plain ≡ opened =
    plain_is (profile_of key) key.bytes c.args.self.now.usage c.args.text.now c.schedule.result.now body plain opened (known_profile key) c.in_ok-body.ensures.opens c.schedule.ensures c.decrypt_after_first.ensures o in
    let size : needed ≡ length opened =
    sym (ap length c.decrypt_after_first.ensures ∙ length-plain c.schedule.result.now body c.in_ok-body.ensures.confounder) ∙ ap length is in
    written OpenToFault (λ short. ShortSlice short) opened old (plain ++ drop needed old) needed size (omega arith) (ap (λ (t : List ℕ). t ++ drop needed old) is)
