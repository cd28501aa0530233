use Rattle.std.proofs.Common.{◌≡◌, List, refl, sym, subst}
use Rattle.std.proofs.lemmas.Bool.{ltb-true}
use Rattle.std.proofs.lemmas.Option.{slice_get_read}
use Rattle.std.specs.Prelude.{Option, Some}
use Rattle.std.specs.List.{slice_get}
use Rattle.krb_keytab.specs.Entry.{KeytabEntry}
use Rattle.krb_c.specs.Entries.{TellsEntryIf, entry_bytes, entry_of}
use Rattle.krb_c.proofs.keytab.tell_entry_at.Goals as goal

pub returns-in-Some : goal.returns-in-Some
returns-in-Some c =
    let is : slice_get c.args.keytab.now c.args.index ≡ Some c.in-Some.found.now =
    subst (λ (items : List KeytabEntry). slice_get items c.args.index ≡ Some c.in-Some.found.now) c.entries.ensures
    (slice_get_read c.entries.result.now _ c.args.index c.in-Some.found.now refl (ltb-true _ _ (sym c.in-Some.ensures.lookup.0)) c.in-Some.ensures.lookup.1) in
    subst (λ (found : Option KeytabEntry). TellsEntryIf found c.args.entry.now c.hand_over_with.new.told c.args.buffer.now c.hand_over_with.new.buffer c.hand_over_with.result) (sym is)
    (c.hand_over_with.ensures (entry_bytes c.in-Some.found.now) (entry_of c.in-Some.found.now) c.entry_told.ensures)
