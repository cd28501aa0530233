use Rattle.std.proofs.Common.{rules, arith}
use Rattle.krb_file.proofs.Exits.{err_is}
use Rattle.krb_ccache.specs.Spelling.{name_bytes}
use Rattle.krb_ccache.specs.Value.{FitsName}
use Rattle.krb_ccache.specs.Format.{version_of, head_bytes, FitsHead}
use Rattle.krb_ccache.specs.Types.{Header}
use Rattle.krb_ccache.specs.Inner.Stepping.{Any}
use Rattle.krb_file.proofs.FileLaws.{gives_then}
use Rattle.krb_ccache.proofs.StepLaws.{comes_gives, misses_gives, head_gives}
use Rattle.krb_ccache.proofs.ReaderLaws.{begun, begun_peak, version_fault, header_fault, name_fault}
use Rattle.krb_ccache.proofs.LayoutLaws.{head_fits}
use Rattle.krb_ccache.proofs.stepping.begin.Goals as goal

pub returns-in_err-layout-clause-fault : goal.returns-in_err-layout-clause-fault
returns-in_err-layout-clause-fault g c =
    rw (err_is c.from_residual.result c.from_residual.ensures.1) (version_fault (g.F.Feed.hand c.args.feed.now) (g.F.Feed.hand c.come.new.feed) c.in_err-layout.field-0.0 c.requires.start c.in_err-layout.ensures.misses)

pub returns-in_err-header-clause-fault : goal.returns-in_err-header-clause-fault
returns-in_err-header-clause-fault g c =
    rw (err_is c.from_residual-in_err-header.result c.from_residual-in_err-header.ensures.1) (header_fault c.in_ok-layout.layout (g.F.Feed.hand c.args.feed.now) (g.F.Feed.hand c.come.new.feed) (g.F.Feed.hand c.come-2.new.feed) c.in_err-header.field-0.0 c.requires.start c.in_ok-layout.ensures.comes c.in_err-header.ensures.misses)

pub returns-in_err-default_principal-clause-fault : goal.returns-in_err-default_principal-clause-fault
returns-in_err-default_principal-clause-fault g c =
    rw (err_is c.from_residual-in_err-default_principal.result c.from_residual-in_err-default_principal.ensures.1) (name_fault c.in_ok-layout.layout (g.F.Feed.hand c.args.feed.now) (g.F.Feed.hand c.come.new.feed) (g.F.Feed.hand c.come-2.new.feed) (g.F.Feed.hand c.come-3.new.feed) c.in_ok-header.header.items _ c.in_err-default_principal.field-0.0 c.requires.start c.in_ok-layout.ensures.comes c.in_ok-header.ensures.comes c.in_err-default_principal.ensures.misses (search rules))

pub returns-in_err-header-clause-gave : goal.returns-in_err-header-clause-gave
returns-in_err-header-clause-gave g c =
    let old = g.F.Feed.hand c.args.feed.now in
    let first = g.F.Feed.hand c.come.new.feed in
    let new = g.F.Feed.hand c.come-2.new.feed in
    gives_then old.source first.source new.source _ _ _ (comes_gives version_of Any old first c.in_ok-layout.layout c.in_ok-layout.ensures.comes)
    (misses_gives (head_bytes c.in_ok-layout.layout) (FitsHead c.in_ok-layout.layout) first new Header c.in_err-header.field-0.0 c.in_err-header.ensures.misses)

pub returns-in_err-default_principal-clause-gave : goal.returns-in_err-default_principal-clause-gave
returns-in_err-default_principal-clause-gave g c =
    head_gives c.in_ok-layout.layout (g.F.Feed.hand c.args.feed.now) (g.F.Feed.hand c.come.new.feed) (g.F.Feed.hand c.come-2.new.feed) (g.F.Feed.hand c.come-3.new.feed) c.in_ok-header.header.items c.in_ok-layout.ensures.comes c.in_ok-header.ensures.comes
    (misses_gives name_bytes FitsName (g.F.Feed.hand c.come-2.new.feed) (g.F.Feed.hand c.come-3.new.feed) _ c.in_err-default_principal.field-0.0 c.in_err-default_principal.ensures.misses)

pub returns-clause-gave : goal.returns-clause-gave
returns-clause-gave g c =
    head_gives c.in_ok-layout.layout (g.F.Feed.hand c.args.feed.now) (g.F.Feed.hand c.come.new.feed) (g.F.Feed.hand c.come-2.new.feed) (g.F.Feed.hand c.come-3.new.feed) c.in_ok-header.header.items c.in_ok-layout.ensures.comes c.in_ok-header.ensures.comes
    (comes_gives name_bytes FitsName (g.F.Feed.hand c.come-2.new.feed) (g.F.Feed.hand c.come-3.new.feed) c.in_ok-default_principal.default_principal c.in_ok-default_principal.ensures.comes)

pub returns-clause-taken : goal.returns-clause-taken
returns-clause-taken g c = grind (arith, misses_gives, begun, begun_peak, head_fits)
