use Rattle.std.proofs.Common.{List, ℕ, ap, sym, subst}
use Rattle.krb_file.proofs.Exits.{err_is}
use Rattle.krb_ccache.specs.Format.{version_of}
use Rattle.krb_ccache.specs.Types.{BadItem}
use Rattle.krb_ccache.specs.Inner.Stepping.{Any, Stands}
use Rattle.krb_ccache.proofs.ReaderLaws.{begun, version_fault, header_fault, name_fault}
use Rattle.krb_ccache.proofs.stepping.pass_start.Goals as goal

pub version_in-layout-requires : goal.version_in-layout-requires
version_in-layout-requires g c =
    let passed = c.in_ok-pass.ensures.passed in
    (passed.some, subst (λ (t : List ℕ). Stands version_of Any t passed.some) (sym c.bytes.ensures.bytes) passed.stands)

pub returns-in_err-pass-clause-fault : goal.returns-in_err-pass-clause-fault
returns-in_err-pass-clause-fault g c =
    let hand = g.F.Feed.hand in
    rw (err_is c.from_residual.result c.from_residual.ensures.1) (version_fault (hand c.args.feed.now) (hand c.pass.new.feed) c.in_err-pass.field-0.0 c.requires.start c.in_err-pass.ensures.misses)

pub returns-in_err-pass-2-clause-fault : goal.returns-in_err-pass-2-clause-fault
returns-in_err-pass-2-clause-fault g c =
    let hand = g.F.Feed.hand in
    let layout = c.version_in-layout.result in
    let version = c.in_ok-pass.ensures.passed.comes layout (subst (λ (t : List ℕ). Stands version_of Any t layout) c.bytes.ensures.bytes c.version_in-layout.ensures) in
    rw (err_is c.from_residual-in_err-pass-2.result c.from_residual-in_err-pass-2.ensures.1) (header_fault layout (hand c.args.feed.now) (hand c.pass.new.feed) (hand c.pass-2.new.feed) c.in_err-pass-2.field-0.0 c.requires.start version c.in_err-pass-2.ensures.misses)

pub returns-in_err-pass-3-clause-fault : goal.returns-in_err-pass-3-clause-fault
returns-in_err-pass-3-clause-fault g c =
    let hand = g.F.Feed.hand in
    let layout = c.version_in-layout.result in
    let version = c.in_ok-pass.ensures.passed.comes layout (subst (λ (t : List ℕ). Stands version_of Any t layout) c.bytes.ensures.bytes c.version_in-layout.ensures) in
    let header = c.in_ok-pass-2.ensures.passed in
    rw (err_is c.from_residual-in_err-pass-3.result c.from_residual-in_err-pass-3.ensures.1) (name_fault layout (hand c.args.feed.now) (hand c.pass.new.feed) (hand c.pass-2.new.feed) (hand c.pass-3.new.feed) header.some _ c.in_err-pass-3.field-0.0 c.requires.start version (header.comes header.some header.stands) c.in_err-pass-3.ensures.misses (ap BadItem c.given-at.ensures))

pub returns-clause-taken : goal.returns-clause-taken
returns-clause-taken g c =
    let hand = g.F.Feed.hand in
    let layout = c.version_in-layout.result in
    let version = c.in_ok-pass.ensures.passed.comes layout (subst (λ (t : List ℕ). Stands version_of Any t layout) c.bytes.ensures.bytes c.version_in-layout.ensures) in
    let header = c.in_ok-pass-2.ensures.passed in
    let name = c.in_ok-pass-3.ensures.passed in
    (header.some, name.some, begun layout (hand c.args.feed.now) (hand c.pass.new.feed) (hand c.pass-2.new.feed) (hand c.pass-3.new.feed) header.some name.some c.requires.start version (header.comes header.some header.stands) (name.comes name.some name.stands))
