use Rattle.std.proofs.Common.{◌∙◌, Option, Some, Ok, List, sym, subst, arith}
use Rattle.std.specs.Prelude.{All}
use Rattle.std.proofs.lemmas.List.Elements.{All-push}
use Rattle.krb_file.proofs.Exits.{err_is}
use Rattle.krb_ccache.specs.Types.{Credential}
use Rattle.krb_ccache.specs.Reader.{HasTaken}
use Rattle.krb_ccache.specs.Value.{cache_of, FitsCredential}
use Rattle.krb_ccache.specs.Inner.Stepping.{IsStep}
use Rattle.krb_ccache.specs.Inner.Standing.{spelled_as}
use Rattle.krb_ccache.proofs.StepLaws.{gives_step}
use Rattle.krb_ccache.proofs.ReaderLaws.{item_taken, end_taken, item_fault}
use Rattle.krb_ccache.proofs.stepping.steps.Goals as goal

pub returns-in_err-credential-clause-fault : goal.returns-in_err-credential-clause-fault
returns-in_err-credential-clause-fault g c =
    rw (err_is c.from_residual-in_err-credential.result c.from_residual-in_err-credential.ensures.1) (λ from header name start memory read.
    item_fault c.args.layout from (g.F.Feed.hand c.loop-credentials.feed) (g.F.Feed.hand c.step.new.feed) (cache_of header name c.loop-credentials.credentials) c.in_err-credential.field-0.0 (c.loop-credentials.invariant.taken from header name start)
    c.in_err-credential.ensures.step.0 c.in_err-credential.ensures.step.1 memory read)

pub loop-credentials-preserved : goal.loop-credentials-preserved
loop-credentials-preserved g c =
    let comes = subst (λ (next : Option Credential). IsStep c.args.layout (g.F.Feed.hand c.loop-credentials.feed) (g.F.Feed.hand c.step.new.feed) (Ok next)) c.in-Some.is c.in_ok-credential.ensures.step in
    record {
      within = comes.1.within;
      failures = omega (arith, c.in_ok-credential.ensures.failed, c.loop-credentials.invariant.failures);
      fits = subst (All FitsCredential) (sym c.in_ok-push.ensures.ok) (All-push FitsCredential c.loop-credentials.credentials c.in-Some.credential c.loop-credentials.invariant.fits comes.1.fits.fits);
      lent = c.in_ok-credential.ensures.lent ∙ c.loop-credentials.invariant.lent;
      gave = gives_step c.args.layout (g.F.Feed.hand c.loop-credentials.feed) (g.F.Feed.hand c.step.new.feed) ((g.F.Feed.hand c.args.feed.now).source) (g.F.Feed.hand c.args.feed.now).given (Ok (Some c.in-Some.credential)) c.loop-credentials.invariant.gave comes;
      taken = λ from header name start.
          subst (λ (credentials : List Credential). HasTaken c.args.layout from ((g.F.Feed.hand c.step.new.feed).source) (g.F.Feed.hand c.step.new.feed).given (cache_of header name credentials)) (sym c.in_ok-push.ensures.ok)
          (item_taken c.args.layout from (g.F.Feed.hand c.loop-credentials.feed) (g.F.Feed.hand c.step.new.feed) (cache_of header name c.loop-credentials.credentials) (spelled_as comes.0 c.in-Some.credential) (c.loop-credentials.invariant.taken from header name start) comes.1);
    }

pub returns-clause-end : goal.returns-clause-end
returns-clause-end g c = λ from header name start.
    let ends = subst (λ (next : Option Credential). IsStep c.args.layout (g.F.Feed.hand c.loop-credentials.feed) (g.F.Feed.hand c.step.new.feed) (Ok next)) c.in_default.is c.in_ok-credential.ensures.step in
    end_taken c.args.layout from (g.F.Feed.hand c.loop-credentials.feed) (g.F.Feed.hand c.step.new.feed) (cache_of header name c.loop-credentials.credentials) (c.loop-credentials.invariant.taken from header name start) ends.0 ends.1

pub returns-in_err-credential-clause-gave : goal.returns-in_err-credential-clause-gave
returns-in_err-credential-clause-gave g c = grind (arith, gives_step)

pub returns-in_err-push-clause-gave : goal.returns-in_err-push-clause-gave
returns-in_err-push-clause-gave g c = grind (arith, gives_step)
