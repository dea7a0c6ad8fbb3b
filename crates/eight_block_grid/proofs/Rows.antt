-- The ten rows of the eight-block grid, together (document 01, "The eight-block grid"). Assumes nothing.
use Rattle.eight_block_grid.specs.TenRows.{TenRows}
use Rattle.eight_block_grid.proofs.Cuts as Cuts
use Rattle.eight_block_grid.proofs.FMRuns as FM
use Rattle.eight_block_grid.proofs.KLRuns as KL
use Rattle.eight_block_grid.proofs.SwapRuns as Swap

pub ten-rows : TenRows
ten-rows =
    record {
      row_1 = Cuts.row_1;
      row_2 = Cuts.row_2;
      row_3 = Cuts.row_3;
      row_4 = FM.row_4;
      row_5 = FM.row_5;
      row_6 = FM.row_6;
      row_7 = KL.row_7;
      row_8 = KL.row_8;
      row_9 = KL.row_9;
      row_10 = Swap.row_10;
    }
