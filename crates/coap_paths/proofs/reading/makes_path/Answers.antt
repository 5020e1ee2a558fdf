use Rattle.std.proofs.Common.{◌∙◌, sym}
use Rattle.coap_paths.proofs.PathRefusals.{fits_last, fits_then, reached}
use Rattle.coap_paths.proofs.reading.makes_path.Goals as goal

pub returns-then-not-fits : goal.returns-then-not-fits
returns-then-not-fits c = (
  λ is. cc,
  λ fits. sym c.if-not-fits.true ∙ c.fits.ensures.1 (fits_then c.segments.left.now c.in-Some.segment.now
      c.in-Some.after.now _ c.segments.before c.segments.invariant c.in-Some.ensures.cut fits),
)

pub segments-preserved : goal.segments-preserved
segments-preserved c = reached c.segments.left.now c.in-Some.segment.now c.in-Some.after.now _ c.segments.before
    c.segments.invariant c.in-Some.ensures.cut (c.fits.ensures.0 c.if-not-fits.false)

pub returns : goal.returns
returns c =
    let last = fits_last c.segments.left.now _ c.segments.before c.segments.invariant c.in_default.ensures.none in
    (λ is. last.0 (c.fits-2.ensures.0 is), λ fits. c.fits-2.ensures.1 (last.1 fits))
