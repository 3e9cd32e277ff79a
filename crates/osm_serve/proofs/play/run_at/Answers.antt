use Rattle.osm_serve.proofs.play.run_at.Goals as goal

pub returns : goal.returns
returns c = (c.figures_at-figures.ensures.legal, c.in_ok-replies.ensures, c.figures_at-figures.ensures.figures)
