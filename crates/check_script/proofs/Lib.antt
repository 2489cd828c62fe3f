mod ClientTables
