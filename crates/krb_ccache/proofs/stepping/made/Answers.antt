use Rattle.std.proofs.Common.{Err, ap, sym, subst, ◌∙◌}
use Rattle.krb_file.specs.Cursor.{Place}
use Rattle.krb_file.specs.Field.{IsBytes}
use Rattle.krb_ccache.specs.declared.item_fault.ItemFault.{ItemFault}
use Rattle.krb_ccache.proofs.StepLaws.{lies_stands}
use Rattle.krb_ccache.proofs.stepping.made.Goals as goal

pub read-requires : goal.read-requires
read-requires g c = subst IsBytes (sym (ap (λ (p : Place). p.rest) c.new-cursor.ensures)) (λ i. (c.type_inv.bytes i).fits)

pub returns-in-Ok : goal.returns-in-Ok
returns-in-Ok g c = lies_stands c.args.bytes.now c.new-cursor.result c.read.new.cursor (g.L.Leading.raw c.in-Ok.part) c.new-cursor.ensures c.in-Ok.ensures.read

pub unreachable-requires : goal.unreachable-requires
unreachable-requires g c =
    let none = c.in-Err-Missing.ensures.missing (ap (λ (f : ItemFault). Err f) c.in-Err-Missing.field-0-is) in
    none c.requires.0 c.requires.1.others c.requires.1.fits (ap (λ (p : Place). p.rest) c.new-cursor.ensures ∙ c.requires.1.bytes_are)
