use Rattle.std.proofs.Common.{ℕ, refl, bit_xor}
use Rattle.krb_aes.specs.Inner.Tower.{read_from, inv_by_09, inv_by_0d}
use Rattle.krb_aes.specs.declared.tower.TheConstants.{INV_09_IO, INV_09_JO, INV_04_IO, INV_04_JO, INV_02_IO, INV_02_JO, INV_01_IO, INV_01_JO}
use Rattle.krb_aes.proofs.LaneRules.{read_lanes, pairs_lanes}
use Rattle.krb_aes.proofs.tower.inv_products.Goals as goal

pub returns-clause-by_09 : goal.returns-clause-by_09
returns-clause-by_09 c =
    read_lanes INV_09_IO INV_09_JO c.args.form _ _ _ c.inverted_form-values.ensures.io c.inverted_form-values.ensures.jo
    c.read-by_09.ensures

pub returns-clause-by_0b : goal.returns-clause-by_0b
returns-clause-by_0b c =
    let values = c.inverted_form-values.ensures in
    let by_02 = read_lanes INV_02_IO INV_02_JO c.args.form _ _ _ values.io values.jo c.read-by_02.ensures in
    pairs_lanes bit_xor inv_by_09 (read_from INV_02_IO INV_02_JO) c.args.form _ _ _ (returns-clause-by_09 c) by_02 refl

pub returns-clause-by_0d : goal.returns-clause-by_0d
returns-clause-by_0d c =
    let values = c.inverted_form-values.ensures in
    let by_04 = read_lanes INV_04_IO INV_04_JO c.args.form _ _ _ values.io values.jo c.read-by_04.ensures in
    pairs_lanes bit_xor inv_by_09 (read_from INV_04_IO INV_04_JO) c.args.form _ _ _ (returns-clause-by_09 c) by_04 refl

pub returns-clause-by_0e : goal.returns-clause-by_0e
returns-clause-by_0e c =
    let values = c.inverted_form-values.ensures in
    let read_02 : ℕ → ℕ = read_from INV_02_IO INV_02_JO in
    let read_01 : ℕ → ℕ = read_from INV_01_IO INV_01_JO in
    let by_02 = read_lanes INV_02_IO INV_02_JO c.args.form _ _ _ values.io values.jo c.read-by_02.ensures in
    let by_01 = read_lanes INV_01_IO INV_01_JO c.args.form _ _ _ values.io values.jo c.read-by_01.ensures in
    let both = pairs_lanes bit_xor read_02 read_01 c.args.form _ _ _ by_02 by_01 refl in
    pairs_lanes bit_xor inv_by_0d (λ t. bit_xor (read_02 t) (read_01 t)) c.args.form _ _ _ (returns-clause-by_0d c) both refl
