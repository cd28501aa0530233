use Rattle.std.proofs.Common.{refl, sym, subst, ◌/◌, ◌^◌, bit_and}
use Rattle.krb_aes.specs.Inner.Tower.{ArePlaces, LanesBelow, io_of, jo_of, io_at, jo_at}
use Rattle.krb_aes.proofs.LaneRules.{bytes_in_lanes, low_halves, high_halves, nibbles_of_bytes, places_of_bytes, pairs_lanes}
use Rattle.krb_aes.proofs.tower.inverted_form.Goals as goal

pub inverted-requires-clause-i : goal.inverted-requires-clause-i
inverted-requires-clause-i c =
    subst (LanesBelow 16) (sym (high_halves c.args.form c.fits-form.0))
    (nibbles_of_bytes (λ t. t / 2 ^ 4) refl c.args.form (bytes_in_lanes c.args.form c.fits-form))

pub inverted-requires-clause-k : goal.inverted-requires-clause-k
inverted-requires-clause-k c =
    subst (LanesBelow 16) (sym (low_halves c.args.form c.fits-form.0))
    (nibbles_of_bytes (λ t. bit_and t 15) refl c.args.form (bytes_in_lanes c.args.form c.fits-form))

pub returns-clause-io : goal.returns-clause-io
returns-clause-io c =
    pairs_lanes io_of (λ t. t / 2 ^ 4) (λ t. bit_and t 15) c.args.form _ _ _
    (high_halves c.args.form c.fits-form.0) (low_halves c.args.form c.fits-form.0) c.inverted.ensures.io

pub returns-clause-jo : goal.returns-clause-jo
returns-clause-jo c =
    pairs_lanes jo_of (λ t. t / 2 ^ 4) (λ t. bit_and t 15) c.args.form _ _ _
    (high_halves c.args.form c.fits-form.0) (low_halves c.args.form c.fits-form.0) c.inverted.ensures.jo

pub returns-clause-io_places : goal.returns-clause-io_places
returns-clause-io_places c =
    subst ArePlaces (sym (returns-clause-io c)) (places_of_bytes io_at refl c.args.form (bytes_in_lanes c.args.form c.fits-form))

pub returns-clause-jo_places : goal.returns-clause-jo_places
returns-clause-jo_places c =
    subst ArePlaces (sym (returns-clause-jo c)) (places_of_bytes jo_at refl c.args.form (bytes_in_lanes c.args.form c.fits-form))
