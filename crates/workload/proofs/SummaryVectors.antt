-- Worked rows: the definitions compute what they should.
use Rattle.std.proofs.Common.{◌≡◌, Some, codes, pos, refl}
use Rattle.std.specs.Fmt.{digits}
use Rattle.workload.specs.Figures.{figures_of}
use Rattle.workload.specs.Summary.{first_line, count_lines, load_lines, reply_lines, summary, replay_summary}
use Rattle.workload.specs.declared.figures.Figures.{Figures}
use Rattle.osm_element.specs.Elements.{no_elements}

abbrev thousand_uploads : Figures
thousand_uploads = record {
  entries = 1003;
  nodes = 10000;
  ways = 1000;
  relations = 0;
  first = Some (record { lat7 = pos 480100271; lon7 = pos 110469695 });
}

ten_lines :
    summary (record { seed = 1; sessions = 3; uploads = 1000; replies = 1003; refused = 0 }) thousand_uploads
    ≡ codes "seed 1\nsessions 3\nuploads 1000\nentries 1003\nnodes 10000\nways 1000\nrelations 0\nreplies 1003\nrefused 0\nfirst 480100271 110469695\n"
unfolding summary load_lines count_lines reply_lines first_line digits
ten_lines = refl

nothing_replayed : replay_summary (figures_of no_elements 0) ≡ codes "entries 0\nnodes 0\nways 0\nrelations 0\nfirst none\n"
unfolding replay_summary count_lines first_line digits
nothing_replayed = refl
