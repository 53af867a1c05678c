use Rattle.hc_crowd.proofs.LighteningLemmas.{others_stay}
use Rattle.hc_crowd.proofs.traffic.Traffic.cut_off.Goals as goal

pub returns : goal.returns
returns g c = record {
  kept = c.cut_off.ensures.kept;
  cut = c.cut_off.ensures.cut;
  others = others_stay c.args.heaviest.load.link _ _ c.cut_off.ensures.only;
}
