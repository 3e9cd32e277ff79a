use Rattle.std.proofs.Common.{List, ◌∙◌, ◌-◌, ap, set}
use Rattle.osm_base.specs.Row.{Row}
use Rattle.osm_element.specs.Version.{Version}
use Rattle.history_store.proofs.Rows.{marked_in, with_items}
use Rattle.history_store.proofs.histories.mark_row.Goals as goal

pub returns : goal.returns
returns c =
    let vacated : List Version = set c.args.row.now.items (c.args.number - 1) c.vacant.result in
    let e = marked_in c.args.row.now.items c.args.number c.replace-version.result c.vacant.result c.args.redaction c.requires.counted c.replace-version.ensures.was in
    c.set.ensures
    ∙ ap (λ (r : Row Version). with_items r (set r.items (c.args.number - 1) c.mark.new.self)) c.replace-version.ensures.row
    ∙ ap (λ (v : Version). with_items c.args.row.now (set vacated (c.args.number - 1) v)) c.mark.ensures
    ∙ ap (with_items c.args.row.now) e
