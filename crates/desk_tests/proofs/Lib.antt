mod MarkRows
