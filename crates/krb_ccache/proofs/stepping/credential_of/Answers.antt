use Rattle.std.proofs.Common.{Err, ap, sym, subst, ◌∙◌}
use Rattle.krb_file.specs.Cursor.{Place}
use Rattle.krb_file.specs.Field.{IsBytes}
use Rattle.krb_ccache.specs.declared.item_fault.ItemFault.{ItemFault}
use Rattle.krb_ccache.specs.Format.{Spelled, Spells}
use Rattle.krb_ccache.specs.Inner.Standing.{bytes_of, spelled_as}
use Rattle.krb_ccache.proofs.CredentialLaws.{spelled_at, IsField-spelled, credential_lies, credential_missing}
use Rattle.krb_ccache.proofs.Repeats.{same_front}
use Rattle.krb_ccache.proofs.stepping.credential_of.Goals as goal

pub unreachable-requires : goal.unreachable-requires
unreachable-requires c =
    let none = credential_missing c.args.layout c.new-cursor.result _ (c.in-Err-Missing.ensures.missing (ap (λ (f : ItemFault). Err f) c.in-Err-Missing.field-0-is)) in
    none c.requires.0 c.requires.1.others c.requires.1.fits (ap (λ (p : Place). p.rest) c.new-cursor.ensures ∙ c.requires.1.bytes_are)

pub returns-in-Ok : goal.returns-in-Ok
returns-in-Ok c = λ one stands.
    let layout = c.args.layout in
    let rest = ap (λ (p : Place). p.rest) c.new-cursor.ensures in
    let fits = subst IsBytes (sym rest) (λ i. (c.type_inv.bytes i).fits) in
    let lies = credential_lies layout c.new-cursor.result _ c.read.new.cursor c.in-Ok.row c.from_row.result fits c.in-Ok.ensures.read (c.from_row.ensures layout) in
    ap (λ (x : Spelled). x.credential)
    (same_front (spelled_at layout) bytes_of (Spells layout) (IsField-spelled layout) (spelled_as lies.0 c.from_row.result) one c.read.new.cursor.rest stands.others lies.1.fits stands.fits (sym lies.1.takes.parts ∙ rest ∙ stands.bytes_are)).0
