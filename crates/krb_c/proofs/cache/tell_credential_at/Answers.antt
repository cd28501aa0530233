use Rattle.std.proofs.Common.{◌≡◌, List, refl, sym, subst}
use Rattle.std.proofs.lemmas.Bool.{ltb-true}
use Rattle.std.proofs.lemmas.Option.{slice_get_read}
use Rattle.std.specs.Prelude.{Option, Some}
use Rattle.std.specs.List.{slice_get}
use Rattle.krb_ccache.specs.declared.credential.Credential.{Credential}
use Rattle.krb_c.specs.Entries.{TellsCredentialIf, credential_bytes, credential_of}
use Rattle.krb_c.proofs.cache.tell_credential_at.Goals as goal

pub returns-in-Some : goal.returns-in-Some
returns-in-Some c =
    let is : slice_get c.args.cache.now.credentials c.args.index ≡ Some c.in-Some.found.now =
    subst (λ (items : List Credential). slice_get items c.args.index ≡ Some c.in-Some.found.now) c.credentials.ensures
    (slice_get_read c.credentials.result.now _ c.args.index c.in-Some.found.now refl (ltb-true _ _ (sym c.in-Some.ensures.lookup.0)) c.in-Some.ensures.lookup.1) in
    subst (λ (found : Option Credential). TellsCredentialIf found c.args.credential.now c.hand_over_with.new.told c.args.buffer.now c.hand_over_with.new.buffer c.hand_over_with.result) (sym is)
    (c.hand_over_with.ensures (credential_bytes c.in-Some.found.now) (credential_of c.in-Some.found.now) c.credential_told.ensures)
