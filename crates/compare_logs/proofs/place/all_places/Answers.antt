-- `compare_logs::place::all_places` meets its contract: what neither log has is not marked.
use Rattle.compare_logs.proofs.Channels.{unseen}
use Rattle.compare_logs.proofs.place.all_places.Goals as goal

pub store_places-requires : goal.store_places-requires
store_places-requires c d lt z =
    let a = c.args.a.now in
    let b = c.args.b.now in
    let o = c.mark_channels-2.ensures.1 d lt z in
    let q = c.mark_channels.ensures.1 d lt o.0 in
    unseen a.bytes.now a.starts.now a.keys.now a.count b.bytes.now b.starts.now b.keys.now b.count a.ready b.ready d q.1 o.1
