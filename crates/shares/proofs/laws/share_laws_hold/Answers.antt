use Rattle.shares.proofs.Sharing.{share_adds, shares_add_up, shares_whole, share_within, share_baseless, share_weightless, share_of_none, share_of_base, share_same}
use Rattle.shares.proofs.laws.share_laws_hold.Goals as goal

pub returns : goal.returns
returns c =
    record {
      adds = share_adds;
      add_up = shares_add_up;
      whole = shares_whole;
      within = share_within;
      baseless = share_baseless;
      weightless = share_weightless;
      of_none = share_of_none;
      of_base = share_of_base;
      same = share_same;
    }
