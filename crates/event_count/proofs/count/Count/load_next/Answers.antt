use Rattle.std.proofs.Common.{rules}
use Rattle.event_count.proofs.Stacking.{read_keeps_at}
use Rattle.event_count.proofs.count.Count.load_next.Goals as goal

pub load-next-requires : goal.load-next-requires
load-next-requires g c = (
  search rules,
  let words = c.args.seat.now.placed in let few = c.args.seat.now.sized in
      let here = c.requires.fits.stacked c.requires.there in let of = c.requires.of in
      search rules,
  read_keeps_at _ _ _ _ c.args.seat.now.alone _ _ c.requires.looked c.requires.there
      c.next_word_of-place.ensures,
)
